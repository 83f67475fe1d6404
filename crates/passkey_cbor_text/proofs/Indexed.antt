-- The elements of a list from an index on.
use Rattle.std.proofs.Common.{◌≡◌, ◌∙◌, ℕ, suc, ◌+◌, ◌<◌, arith, add-one, drop-cons, List, ◌∷◌, map, length, get_or, drop, sym, ap}
use Rattle.std.proofs.lemmas.List.{get_or-map, length-map}

-- the element at an index, and those after it
pub mapped_at : {X Y : Type 0} (seen : X → Y) (xs : List X) (i : ℕ) (x : X) → x ≡ get_or xs i x
    → i < length xs → drop i (map seen xs) ≡ seen x ∷ drop (i + 1) (map seen xs)
mapped_at {Y = Y} seen xs i x e within =
    let long : i < length (map seen xs) = omega (arith, within, length-map xs seen) in
    let here : get_or (map seen xs) i (seen x) ≡ seen x = get_or-map seen xs i x (seen x) within ∙ ap seen (sym e) in
    rw add-one
    (drop-cons (map seen xs) i (seen x) long ∙ ap (λ (y : Y). y ∷ drop (suc i) (map seen xs)) here)
