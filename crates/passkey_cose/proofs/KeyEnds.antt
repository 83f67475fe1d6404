-- Comparing two lists by a view of their elements.
use Rattle.std.specs.Cmp.Lexicographic.{pointwise}
use Rattle.std.proofs.Common.{◌≡◌, ◌&&◌, Bool, List, [], ◌∷◌, map, refl, ap}

pub pointwise-map : {X A : Type 0} (seen : X → A) (E : A → A → Bool) (xs ys : List X)
    → pointwise (λ x y. E (seen x) (seen y)) xs ys ≡ pointwise E (map seen xs) (map seen ys)
pointwise-map seen E [] [] = refl
pointwise-map seen E [] (y ∷ ys) = refl
pointwise-map seen E (x ∷ xs) [] = refl
pointwise-map seen E (x ∷ xs) (y ∷ ys) = ap (λ b. E (seen x) (seen y) && b) (pointwise-map seen E xs ys)
