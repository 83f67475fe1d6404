-- The classes of status bytes without names (CTAP 2.1, section 8.2), as ranges that include both ends.
use Rattle.std.specs.Prelude.{ℕ, nat_le, Bool, ◌&&◌, List, [], ◌∷◌}
use Rattle.std.specs.List.{list_any}

abbrev pub is_in : List (ℕ × ℕ) → ℕ → Bool
is_in ranges byte = list_any (λ (range : ℕ × ℕ). nat_le range.0 byte && nat_le byte range.1) ranges

-- the bytes that the specification doesn't assign
abbrev pub unassigned : List (ℕ × ℕ)
unassigned = (0x07, 0x09) ∷ (0x0C, 0x10) ∷ (0x13, 0x13) ∷ (0x16, 0x16) ∷ (0x1A, 0x20) ∷ (0x29, 0x2A) ∷ (0x38, 0x38)
    ∷ (0x41, 0x7E) ∷ (0x80, 0xDF) ∷ []

abbrev pub extension : List (ℕ × ℕ)
extension = (0xE0, 0xEF) ∷ []

abbrev pub vendor : List (ℕ × ℕ)
vendor = (0xF0, 0xFF) ∷ []
