-- Heads of one byte.
use Rattle.std.proofs.Common.{◌≡◌, ℕ, suc, ◌+◌, ◌-◌, ◌*◌, ◌/◌, ◌%◌, ◌<◌, ◌≤◌, Bool, true, false, List, [], ◌∷◌, drop, length, get_or, add-one, Option, Some, None, refl, sym, ap, ◌∙◌, arith}
use Rattle.std.specs.Prelude.{IfSome, if◌then◌else◌, nat_lt}
use Rattle.std.proofs.Math.Seq.{drop-cons}
use Rattle.std.proofs.lemmas.Bool.{lt-ltb, ltb-true, ne_eqb}
use Rattle.passkey_cbor.specs.Heads.{Heads, following, one}
use Rattle.passkey_cbor.specs.HeadReading.{◌>>=◌, argument_at, with_argument, simple_at, head_after, head_at}
use Rattle.passkey_cbor.specs.Found.{small_number}
use Rattle.passkey_cbor.specs.Lent.{string_head}
use Rattle.passkey_cbor.specs.declared.head.Head.{Head}
use Rattle.passkey_cbor.specs.declared.head.Head.TheVariants as head
use Rattle.passkey_cbor.proofs.items.Binds.{some_is, none_is_some}
use Rattle.passkey_cbor.proofs.heads.HeadAgain.{heads_again}

short_argument : (b : ℕ) (rest : List ℕ) → b % 32 < 24 → b / 32 < 7
    → head_at (b ∷ rest) ≡ (with_argument (b / 32) (b % 32) >>= λ h. Some (h, rest))
unfolding head_at head_after argument_at
short_argument b rest lt small = rw (
  ne_eqb (b % 32) 31 (λ (q : b % 32 ≡ 31). omega arith),
  ne_eqb (b / 32) 7 (λ (q : b / 32 ≡ 7). omega arith),
  lt-ltb (b % 32) 24 lt,
) refl

pub short_simple : (b : ℕ) (rest : List ℕ) → b % 32 < 24 → b / 32 ≡ 7
    → head_at (b ∷ rest) ≡ Some (head.Simple (b % 32), rest)
unfolding head_at head_after simple_at
short_simple b rest lt is =
    rw (ne_eqb (b % 32) 31 (λ (q : b % 32 ≡ 31). omega arith), is, lt-ltb (b % 32) 24 lt) refl

pub short_other : (b : ℕ) (o : Option Head) → b < 256 → b % 32 < 24 → (b / 32 ≡ 7 → ⊥)
    → o ≡ with_argument (b / 32) (b % 32)
    → IfSome o (λ h. (rest : List ℕ) → head_at (b ∷ rest) ≡ Some (h, rest))
short_other b None byte lt not_7 e = tt
short_other b (Some h) byte lt not_7 e = λ rest.
    short_argument b rest lt (omega (arith, not_7)) ∙ ap (λ (o : Option Head). o >>= λ g. Some (g, rest)) (sym e)

chosen : (p : Bool) (b n : ℕ) → (if p then Some b else None) ≡ Some n → (p ≡ true) × (b ≡ n)
chosen true b n e = (refl, some_is b n e)
chosen false b n e = absurd (none_is_some n e)

-- a number below 24
pub small_head : (bytes : List ℕ) (n : ℕ) → small_number bytes ≡ Some n
    → head_at bytes ≡ Some (head.Unsigned n, drop 1 bytes)
small_head [] n e = absurd (none_is_some n e)
small_head (b ∷ rest) n e =
    let is = chosen (nat_lt b 24) b n e in
    let less : b < 24 = ltb-true b 24 is.0 in
    let major : b / 32 ≡ 0 = omega (arith, less) in
    let info : b % 32 ≡ n = omega (arith, less, is.1) in
    short_argument b rest (omega (arith, info, is.1, less)) (omega (arith, major)) ∙ rw (major, info) refl

small_major : (m n : ℕ) (h : Head) → with_argument m n ≡ Some h → m < 7
small_major (suc (suc (suc (suc (suc (suc (suc m))))))) n h e = absurd (none_is_some h e)
small_major _ n h e = omega arith

-- a head whose argument is the byte after the initial byte
two_bytes : (b a : ℕ) (rest : List ℕ) (h : Head) → a < 256 → b % 32 ≡ 24 → with_argument (b / 32) a ≡ Some h
    → head_at (b ∷ (a ∷ rest)) ≡ Some (h, rest)
two_bytes b a rest h byte info e =
    let small : b / 32 < 7 = small_major (b / 32) a h e in
    let first : b ≡ 32 * (b / 32) + 24 = omega (arith, info) in
    let second : a ≡ a % 256 = omega (arith, byte) in
    let encoded : Heads (b / 32) a (b ∷ (a ∷ [])) = following one byte (λ j. first j ∷ (second j ∷ [])) in
    heads_again (b / 32) a (b ∷ (a ∷ [])) rest small encoded ∙ ap (λ (o : Option Head). o >>= λ g. Some (g, rest)) e

pub with_byte_is : (b a : ℕ) (o : Option Head) → a < 256 → b % 32 ≡ 24 → o ≡ with_argument (b / 32) a
    → IfSome o (λ h. (rest : List ℕ) → head_at (b ∷ (a ∷ rest)) ≡ Some (h, rest))
with_byte_is b a None byte info e = tt
with_byte_is b a (Some h) byte info e = λ rest. two_bytes b a rest h byte info (sym e)

-- such a head at an offset
pub short_at : (bytes : List ℕ) (place : ℕ) (o : Option Head) → place < length bytes
    → IfSome o (λ h. (rest : List ℕ) → head_at (get_or bytes place 0 ∷ rest) ≡ Some (h, rest))
    → IfSome o (λ h. head_at (drop place bytes) ≡ Some (h, drop (place + 1) bytes))
short_at bytes place None lt s = tt
short_at bytes place (Some h) lt s =
    let first : drop place bytes ≡ get_or bytes place 0 ∷ drop (place + 1) bytes =
    rw (add-one, drop-cons bytes place 0) refl in
    ap head_at first ∙ s (drop (place + 1) bytes)

-- ---- strings

-- the initial byte of a string without bytes
abbrev pub first_of : Bool → ℕ
first_of false = 64
first_of true = 96

-- a string of fewer than 24 bytes
pub string_in_initial : (is_text : Bool) (first b : ℕ) (rest : List ℕ) → first ≡ first_of is_text → first ≤ b
    → b - first < 24 → head_at (b ∷ rest) ≡ Some (string_head is_text (Some (b - first)), rest)
string_in_initial false first b rest is le lt =
    let major : b / 32 ≡ 2 = omega (arith, is, le, lt) in
    let info : b % 32 ≡ b - first = omega (arith, is, le, lt) in
    short_argument b rest (omega (arith, info, lt)) (omega (arith, major)) ∙ rw (major, info) refl
string_in_initial true first b rest is le lt =
    let major : b / 32 ≡ 3 = omega (arith, is, le, lt) in
    let info : b % 32 ≡ b - first = omega (arith, is, le, lt) in
    short_argument b rest (omega (arith, info, lt)) (omega (arith, major)) ∙ rw (major, info) refl

-- a string whose length is in the byte after the initial byte
pub string_in_byte : (is_text : Bool) (first n : ℕ) (rest : List ℕ) → first ≡ first_of is_text + 24 → n < 256
    → head_at (first ∷ (n ∷ rest)) ≡ Some (string_head is_text (Some n), rest)
string_in_byte false first n rest is lt = rw is (two_bytes 88 n rest (head.Bytes (Some n)) lt refl refl)
string_in_byte true first n rest is lt = rw is (two_bytes 120 n rest (head.Text (Some n)) lt refl refl)
