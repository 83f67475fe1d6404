-- Counts that saturate.
use Rattle.std.proofs.Common.{◌≡◌, ◌∙◌, ℕ, zero, suc, ◌+◌, ◌≤◌, sym, ap, arith}
use Rattle.passkey_cbor.specs.CursorState.{raised}

pub raised-le : (n k : ℕ) → raised n k ≤ n + k
raised-le n zero = omega arith
raised-le n (suc k) = omega arith

pub raised-raised : (n j k : ℕ) → raised (raised n j) k ≡ raised n (j + k)
raised-raised n zero k = let none : k ≡ 0 + k = omega arith in ap (raised n) none
raised-raised n (suc j) zero = let none : suc j ≡ suc j + 0 = omega arith in ap (raised n) none
raised-raised n (suc j) (suc k) =
    let sum : suc j + suc k ≡ suc (j + suc k) = omega arith in
    let both : raised (raised n (suc j)) (suc k) ≡ raised n (suc (j + suc k)) = omega arith in
    both ∙ ap (raised n) (sym sum)

pub raised_monotone : (n m k : ℕ) → n ≤ m → raised n k ≤ raised m k
raised_monotone n m zero le = le
raised_monotone n m (suc k) le = omega arith

-- counted one after the other
pub raised_then : (n m c j k : ℕ) → raised n j ≤ m → raised m k ≤ c → raised n (j + k) ≤ c
raised_then n m c j k first second =
    omega (arith, raised-raised n j k, raised_monotone (raised n j) m k first, second)
