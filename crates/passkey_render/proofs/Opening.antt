-- Descriptions with authenticator data and keys opened, part by part.
use Rattle.std.proofs.Common.{◌≡◌, ◌∷◌, [], List, map, refl, ap}
use Rattle.passkey_explain.specs.Described.{Described, Part, Parts, element, labelled, part, parts_from}
use Rattle.passkey_render.specs.Opened.{opened, opened_part, opened_parts}

pub elements_opened : (ds : List Described) → opened_parts (parts_from (map (λ d. labelled element d) ds))
    ≡ parts_from (map (λ d. labelled element d) (map opened ds))
elements_opened [] = refl
elements_opened (d ∷ ds) = ap (λ (ps : Parts). part element (opened d) ps) (elements_opened ds)

pub parts_opened : {X : Type 0} (f : X → Part) (xs : List X)
    → opened_parts (parts_from (map f xs)) ≡ parts_from (map (λ x. opened_part (f x)) xs)
parts_opened f [] = refl
parts_opened f (x ∷ xs) =
    ap (λ (ps : Parts). part (opened_part (f x)).0 (opened_part (f x)).1 ps) (parts_opened f xs)
