-- What follows a prefix.
use Rattle.std.proofs.Common.{◌≡◌, ◌==◌, ℕ, List, [], ◌∷◌, length, take, drop, Some, None, refl, cond, arith}
use lib.Pointwise.{pointwise}
use Rattle.passkey_view.specs.ClientData.{after}

pub after_taken : (ps bs : List ℕ)
    → after ps bs ≡ cond (pointwise (λ b p. b == p) (take (length ps) bs) ps) (Some (drop (length ps) bs)) None
unfolding after
after_taken [] bs = refl
after_taken (p ∷ ps) [] = refl
after_taken (p ∷ ps) (b ∷ bs) = grind (arith, after_taken ps bs)
