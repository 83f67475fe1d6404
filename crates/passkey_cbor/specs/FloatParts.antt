-- A floating-point number, as its width in bytes and its bits (RFC 8949, section 3.3).
use Rattle.std.specs.Prelude.{ℕ, ◌^◌, ◌==◌, ◌&&◌, ◌||◌, nat_lt, Bool, IsTrue}

pub record FloatParts : Type 0 where
  pub width : ℕ
  pub bits : ℕ

-- the width is 2, 4 or 8 bytes, and the bits fit in it
abbrev pub is_float : ℕ → ℕ → Bool
is_float width bits = (width == 2 && nat_lt bits (2 ^ 16)) || (width == 4 && nat_lt bits (2 ^ 32))
    || (width == 8 && nat_lt bits (2 ^ 64))

abbrev pub IsFloat : ℕ → ℕ → Type 0
IsFloat width bits = IsTrue (is_float width bits)
