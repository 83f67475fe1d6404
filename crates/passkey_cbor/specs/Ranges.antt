-- The integers and the simple values of CBOR (RFC 8949, sections 3.1 and 3.3).
use Rattle.std.specs.Prelude.{ℕ, ◌^◌, ◌&&◌, ◌||◌, nat_lt, nat_le, ℤ, pos, negsuc, Bool, IsTrue}

-- from -2^64 to 2^64 - 1; `negsuc n` is -1 - n
abbrev pub is_integer : ℤ → Bool
is_integer (pos n) = nat_lt n (2 ^ 64)
is_integer (negsuc n) = nat_lt n (2 ^ 64)

abbrev pub IsInteger : ℤ → Type 0
IsInteger z = IsTrue (is_integer z)

-- 20 to 23 are false, true, null and undefined, and 24 to 31 aren't well-formed
abbrev pub is_simple : ℕ → Bool
is_simple n = nat_lt n 20 || (nat_le 32 n && nat_lt n 256)

abbrev pub IsSimple : ℕ → Type 0
IsSimple n = IsTrue (is_simple n)
