-- Where bytes aren't in CTAP2's canonical form, and which of its rules they break there (CTAP 2.2, section 8). `rest` are
-- the bytes from there on.
use Rattle.std.specs.Prelude.{◌≡◌, ℕ, zero, suc, ◌-◌, ◌<◌, ◌≤◌, ◌==◌, Bool, List, [], length, drop, Option, Some, None, if◌then◌else◌}
use Rattle.std.specs.declared.cmp.Ordering.{Ordering}
use Rattle.std.specs.declared.cmp.Ordering.TheVariants.{Less, Equal, Greater}
use Rattle.passkey_cbor.specs.Canonical.{ComesAfter}
use Rattle.passkey_cbor.specs.CanonicalReading.{BeginsShortest, BeginsItem, head_written}
use Rattle.passkey_cbor.specs.HeadEncoding.{IsEncodingOfHead}
use Rattle.passkey_cbor.specs.Lent.{string_head}
use Rattle.passkey_cbor.specs.Order.{ctap2_order}
use Rattle.passkey_cbor.specs.Written.{written}
use Rattle.passkey_cbor.specs.declared.head.Head.{Head}
use Rattle.passkey_cbor.specs.declared.head.Head.TheVariants as head
use Rattle.passkey_malformed.specs.Stops.{Begins, HasNoHead, NoHead, NoPiece}
use Rattle.passkey_malformed.specs.declared.rule.NotCanonical.{NotCanonical}
use Rattle.passkey_malformed.specs.declared.rule.Rule.{Rule}
use Rattle.passkey_malformed.specs.declared.rule.Rule.TheVariants as rule
use Rattle.passkey_malformed.specs.declared.why.Why.{Why}
use Rattle.passkey_malformed.specs.declared.why.Why.TheVariants as reason

-- ---- heads

-- The bytes begin with no head, or with one that has a shorter encoding.
pub data NoShortestHead (bytes : List ℕ) (r : Rule) (rest : List ℕ) : Type 0 where
  none : (why : Why) → r ≡ rule.WellFormed why → HasNoHead bytes → NoHead bytes why rest → NoShortestHead bytes r rest
  longer : (h : Head) (following : List ℕ) (b : Begins (IsEncodingOfHead h) bytes following)
      → (b.text ≡ head_written h → ⊥) → r ≡ rule.ShortestHead → rest ≡ bytes → NoShortestHead bytes r rest

-- the rule that a string of this length breaks
abbrev pub string_rule : Option ℕ → Option Rule
string_rule None = Some rule.DefiniteLength
string_rule (Some n) = None

-- the rule that an array or a map of this length breaks where so many levels are left
abbrev pub list_rule : ℕ → Option ℕ → Option Rule
list_rule levels None = Some rule.DefiniteLength
list_rule zero (Some n) = Some rule.Levels
list_rule (suc levels) (Some n) = None

-- the rule that a data item with this head breaks where so many levels are left, whatever follows the head
abbrev pub head_rule : ℕ → Head → Option Rule
head_rule levels (head.Unsigned n) = None
head_rule levels (head.Negative n) = None
head_rule levels (head.Bytes len) = string_rule len
head_rule levels (head.Text len) = string_rule len
head_rule levels (head.Array len) = list_rule levels len
head_rule levels (head.Map len) = list_rule levels len
head_rule levels (head.Tag n) = Some rule.NoTag
head_rule levels (head.Simple n) = if n == 23 then Some rule.NoUndefined else None
head_rule levels (head.Float f) = None
head_rule levels head.Break = Some (rule.WellFormed reason.StrayBreak)

-- ---- strings

-- The bytes don't begin with the content of a string of n bytes.
pub record NoContent (is_text : Bool) (n : ℕ) (bytes : List ℕ) (r : Rule) (rest : List ℕ) : Type 0 where
  pub why : Why
  pub is : r ≡ rule.WellFormed why
  pub none : NoPiece is_text n bytes why rest

-- ---- keys

abbrev pub order_rule : Ordering → Option Rule
order_rule Less = None
order_rule Equal = Some rule.DistinctKeys
order_rule Greater = Some rule.AscendingKeys

-- the rule that a key breaks after this one
abbrev pub key_rule : Option (List ℕ) → List ℕ → Option Rule
key_rule None key = None
key_rule (Some before) key = order_rule (ctap2_order before key)

-- ---- data items

mutual
  -- Where a canonical data item of at most `levels` levels belongs, the bytes go on with none, since this rule is
  -- broken. Each open array and map around the place is one level fewer, and all before it is canonical.
  pub data Breaks : ℕ → List ℕ → Rule → List ℕ → Type 0 where
    at_head : {levels : ℕ} {bytes : List ℕ} {r : Rule} {rest : List ℕ} → NoShortestHead bytes r rest
        → Breaks levels bytes r rest
    barred : {levels : ℕ} {bytes : List ℕ} {r : Rule} {rest : List ℕ} (h : Head) (following : List ℕ)
        → BeginsShortest h bytes following → head_rule levels h ≡ Some r → rest ≡ bytes → Breaks levels bytes r rest
    in_string : {levels : ℕ} {bytes : List ℕ} {r : Rule} {rest : List ℕ} (is_text : Bool) (n : ℕ) (following : List ℕ)
        → BeginsShortest (string_head is_text (Some n)) bytes following → NoContent is_text n following r rest
        → Breaks levels bytes r rest
    in_array : {levels : ℕ} {bytes : List ℕ} {r : Rule} {rest : List ℕ} (inner n : ℕ) (following : List ℕ)
        → levels ≡ suc inner → BeginsShortest (head.Array (Some n)) bytes following
        → BreaksInItems inner n following r rest → Breaks levels bytes r rest
    in_map : {levels : ℕ} {bytes : List ℕ} {r : Rule} {rest : List ℕ} (inner n : ℕ) (following : List ℕ)
        → levels ≡ suc inner → BeginsShortest (head.Map (Some n)) bytes following
        → BreaksInPairs inner n None following r rest → Breaks levels bytes r rest

  -- the same where so many canonical data items belong
  pub data BreaksInItems : ℕ → ℕ → List ℕ → Rule → List ℕ → Type 0 where
    at_item : {levels left : ℕ} {bytes : List ℕ} {r : Rule} {rest : List ℕ} → 0 < left → Breaks levels bytes r rest
        → BreaksInItems levels left bytes r rest
    after_item : {levels left : ℕ} {bytes : List ℕ} {r : Rule} {rest : List ℕ} (next : List ℕ) → 0 < left
        → BeginsItem levels bytes next → BreaksInItems levels (left - 1) next r rest
        → BreaksInItems levels left bytes r rest

  -- the same where so many pairs of them belong, the first after the key `before`
  pub data BreaksInPairs : ℕ → ℕ → Option (List ℕ) → List ℕ → Rule → List ℕ → Type 0 where
    in_key : {levels left : ℕ} {before : Option (List ℕ)} {bytes : List ℕ} {r : Rule} {rest : List ℕ} → 0 < left
        → Breaks levels bytes r rest → BreaksInPairs levels left before bytes r rest
    misplaced : {levels left : ℕ} {before : Option (List ℕ)} {bytes : List ℕ} {r : Rule} {rest : List ℕ}
        (middle : List ℕ) → 0 < left → (k : BeginsItem levels bytes middle) → key_rule before (written k.item) ≡ Some r
        → rest ≡ bytes → BreaksInPairs levels left before bytes r rest
    in_value : {levels left : ℕ} {before : Option (List ℕ)} {bytes : List ℕ} {r : Rule} {rest : List ℕ}
        (middle : List ℕ) → 0 < left → (k : BeginsItem levels bytes middle) → ComesAfter before (written k.item)
        → Breaks levels middle r rest → BreaksInPairs levels left before bytes r rest
    after_pair : {levels left : ℕ} {before : Option (List ℕ)} {bytes : List ℕ} {r : Rule} {rest : List ℕ}
        (middle next : List ℕ) → 0 < left → (k : BeginsItem levels bytes middle) → ComesAfter before (written k.item)
        → BeginsItem levels middle next → BreaksInPairs levels (left - 1) (Some (written k.item)) next r rest
        → BreaksInPairs levels left before bytes r rest

-- ---- the whole

-- The bytes are one canonical data item of at most this many levels, and nothing else.
abbrev pub IsCanonicalWithin : ℕ → List ℕ → Type 0
IsCanonicalWithin levels bytes = BeginsItem levels bytes []

-- A rule is broken in the data item, or bytes follow it.
pub data BreaksOff (levels : ℕ) (bytes : List ℕ) (r : Rule) (rest : List ℕ) : Type 0 where
  in_item : Breaks levels bytes r rest → BreaksOff levels bytes r rest
  trailing : BeginsItem levels bytes rest → 0 < length rest → r ≡ rule.NothingAfter → BreaksOff levels bytes r rest

-- The bytes aren't one canonical data item: at the offset they break off to be one, and the rule is broken there.
pub record IsNotCanonical (levels : ℕ) (bytes : List ℕ) (n : NotCanonical) : Type 0 where
  pub none : IsCanonicalWithin levels bytes → ⊥
  pub within : n.offset ≤ length bytes
  pub breaks : BreaksOff levels bytes n.rule (drop n.offset bytes)
