-- The flags byte of authenticator data (WebAuthn Level 3, section 6.1).
use Rattle.std.specs.Prelude.{ℕ, List, [], ◌∷◌, codes}

-- each flag's name and its bit, in the order of the bits
abbrev pub flag_bits : List (List ℕ × ℕ)
flag_bits = (codes "UP", 1) ∷ (codes "UV", 4) ∷ (codes "BE", 8) ∷ (codes "BS", 16) ∷ (codes "AT", 64)
    ∷ (codes "ED", 128) ∷ []

-- the bits of all flags
abbrev pub known_flags : ℕ
known_flags = 221

-- bits 1 and 5, which are reserved
abbrev pub reserved_flags : ℕ
reserved_flags = 34
