-- Whether a list is empty, by its length.
use Rattle.std.proofs.Common.{◌≡◌, ◌<◌, ◌==◌, ℕ, suc, Bool, true, false, arith, List, [], ◌∷◌, length, refl, sym, ◌∙◌}
use Rattle.std.proofs.lemmas.Bool.{true≢false}
use Rattle.std.proofs.lemmas.Bool.Decides.{nat_tests}

pub not_none : (n : ℕ) → (suc n == 0) ≡ false
not_none n = grind (arith, nat_tests)

pub empty_list : (xs : List ℕ) (b : Bool) → b ≡ (length xs == 0) → b ≡ true → xs ≡ []
empty_list [] b is none = refl
empty_list (x ∷ xs) b is none = absurd (true≢false (sym none ∙ is ∙ not_none (length xs)))

pub filled_list : (xs : List ℕ) (b : Bool) → b ≡ (length xs == 0) → b ≡ false → 0 < length xs
filled_list [] b is some = absurd (true≢false (sym is ∙ some))
filled_list (x ∷ xs) b is some = omega arith
