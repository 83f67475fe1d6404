-- CTAP2's order of map keys, by their encodings (CTAP 2.1, section 8).
use Rattle.std.specs.Prelude.{◌≡◌, ℕ, ◌/◌, List, length, slice_index}
use Rattle.std.specs.Cmp.Lexicographic.{slice_cmp}
use Rattle.std.specs.Ordering.{nat_cmp, ordering_then}
use Rattle.std.specs.declared.cmp.Ordering.{Ordering}
use Rattle.std.specs.declared.cmp.Ordering.TheVariants.{Less}

-- the major type, from the initial byte
abbrev pub key_type : List ℕ → ℕ
key_type key = slice_index key 0 / 32

-- the lower major type first, then the shorter encoding, then the lower bytes in lexicographic order
abbrev pub ctap2_order : List ℕ → List ℕ → Ordering
ctap2_order a b =
    ordering_then (nat_cmp (key_type a) (key_type b))
    (ordering_then (nat_cmp (length a) (length b)) (slice_cmp nat_cmp a b))

abbrev pub IsBefore : List ℕ → List ℕ → Type 0
IsBefore a b = ctap2_order a b ≡ Less
