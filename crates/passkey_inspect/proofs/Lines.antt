-- The lines of one kind more.
use Rattle.std.proofs.Common.{◌≡◌, ◌+◌, ◌++◌, arith, refl, suc, ℕ, List}
use Rattle.passkey_inspect.specs.Kinds.{kind_line, lines_to}

lines_step : (n m : ℕ) → m ≡ suc n → lines_to m ≡ lines_to n ++ kind_line m
lines_step n m is = rw is refl

pub lines_more : (n : ℕ) (before line after : List ℕ) → after ≡ before ++ line → before ≡ lines_to n
    → line ≡ kind_line (n + 1) → after ≡ lines_to (n + 1)
lines_more n before line after made was one = rw (made, was, one, lines_step n (n + 1) (omega arith)) refl
