-- What is still to be written of a description as JSON.
use Rattle.std.proofs.Common.{◌≡◌, ℕ, ◌≤◌, List, ◌++◌, [], map, drop, length, sym, ap, ◌∙◌, ◌∷◌, append_assoc}
use Rattle.std.proofs.lemmas.List.{append-nil, drop_all}
use Rattle.passkey_explain.specs.Described.{Part, parts_from}
use Rattle.passkey_render.specs.Json.{parts_json}

-- nothing is left
pub parts_done : {X : Type 0} (f : X → Part) (xs : List X) (i : ℕ) (out before all : List ℕ) → length xs ≤ i
    → out ++ parts_json (parts_from (map f (drop i xs))) before ≡ all → out ≡ all
parts_done {X} f xs i out before all h e =
    sym (append-nil out)
    ∙ ap (λ (rest : List X). out ++ parts_json (parts_from (map f rest)) before) (sym (drop_all i xs h)) ∙ e

-- an array or an object: its opening bracket, what is inside, and its closing bracket
pub closed : (opening closing : ℕ) (old pushed inner new inside : List ℕ) → pushed ≡ old ++ opening ∷ []
    → inner ≡ pushed ++ inside → new ≡ inner ++ closing ∷ [] → new ≡ old ++ opening ∷ (inside ++ closing ∷ [])
closed opening closing old pushed inner new inside begun all ended =
    ended
    ∙ ap (λ (s : List ℕ). s ++ closing ∷ []) (all ∙ ap (λ (s : List ℕ). s ++ inside) begun)
    ∙ append_assoc (old ++ opening ∷ []) inside (closing ∷ []) ∙ append_assoc old (opening ∷ []) (inside ++ closing ∷ [])
