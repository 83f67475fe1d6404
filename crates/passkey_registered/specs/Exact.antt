-- Values of members that are decoded from items of their own type alone (CTAP 2.2, section 6).
use Rattle.std.specs.Prelude.{◌≡◌, ◌==◌, ℕ, List, Option, Some, None, if◌then◌else◌, length, option_map}
use Rattle.passkey_kinds.specs.Kind.{Kind, Typed, nothing}
use Rattle.passkey_kinds.specs.Placed.{Any, Coded, Placed, present_under}
use Rattle.passkey_kinds.specs.Typed.{growing}
use Rattle.passkey_kinds.specs.Words.{byte_string, number_tree, text_string}
use Rattle.passkey_kinds.specs.declared.wanted.Wanted.TheVariants as wanted

-- ---- byte strings

abbrev pub exact_bytes_from : Kind (List ℕ)
exact_bytes_from (byte_string s) = Some s
exact_bytes_from _ = None

abbrev pub exact_bytes : Coded (List ℕ)
exact_bytes = record { typed = growing 2 nothing wanted.Bytes exact_bytes_from; tree = byte_string; Fits = Any }

-- a byte string of 32 bytes
abbrev pub hash_from : Kind (List ℕ)
hash_from (byte_string s) = if length s == 32 then Some s else None
hash_from _ = None

abbrev pub hash : Coded (List ℕ)
hash = record {
  typed = growing 2 nothing (wanted.ByteString 32) hash_from;
  tree = byte_string;
  Fits = λ s. length s ≡ 32;
}

-- ---- optional members, for which null doesn't stand

abbrev pub present : {M : Type 0} → Typed M → Typed (Option M)
present k = record {
  of = λ i. option_map (λ x. Some x) (k.of i);
  takes = k.takes;
  cost = k.cost;
  keeps = k.keeps;
  shape = k.shape;
}

abbrev pub present_as : {M P : Type 0} → ℕ → List ℕ → Coded M → (P → Option M) → (Option M → P → P)
    → Placed P
present_as n name c = present_under (present c.typed) (text_string name) n name c

abbrev pub present_at : {M P : Type 0} → ℕ → List ℕ → Coded M → (P → Option M) → (Option M → P → P)
    → Placed P
present_at n name c = present_under (present c.typed) (number_tree n) n name c
