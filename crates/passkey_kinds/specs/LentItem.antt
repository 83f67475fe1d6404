-- Lending a member's value out of a message's bytes, as it is encoded there.
use Rattle.passkey_kinds.specs.Base.{Item, IsEncodedAt}
use Rattle.std.specs.Prelude.{◌≡◌, ℕ, ◌+◌, ◌-◌, Bool, true, false, List, [], ◌∷◌, ◌++◌, length, take, drop, Option, Some, None, unwrap_or}
use Rattle.std.specs.Option.{option_and_then}
use Rattle.passkey_cbor.specs.HeadEncoding.{IsEncodingOfHead}
use Rattle.passkey_cbor.specs.LeadingItem.{IsLeadingItem}
use Rattle.passkey_cbor.specs.CursorState.{CursorState}
use Rattle.passkey_cbor.specs.declared.head.Head.TheVariants as head
use Rattle.passkey_kinds.specs.Lending.{is_row, value_among}
use Rattle.passkey_kinds.specs.Reader.{members_in}
use Rattle.passkey_kinds.specs.Record.{Table, Naming, wrong, named, Members}

-- the value of row n in a map
abbrev pub value_in : Table → ℕ → Item → Option Item
value_in table n i = option_and_then (value_among table n) (members_in i)

abbrev pub Chosen : Bool → Type 0 → Type 0 → Type 0
Chosen true Here After = Here
Chosen false Here After = After

-- the first if a map key names row n, and else the second, unless no record can have the key
abbrev pub IfRow : ℕ → Naming → Type 0 → Type 0 → Type 0
IfRow n wrong Here After = ⊥
IfRow n naming Here After = Chosen (is_row n naming) Here After

-- Of members that are encoded one after the other from an offset on, the first that names row n has its value
-- between these two offsets.
abbrev pub ValueLies : Table → ℕ → Members → List ℕ → ℕ → ℕ → ℕ → Type 0
ValueLies table n [] bytes at from to = ⊥
ValueLies table n (m ∷ ms) bytes at from to = (middle : ℕ) × (next : ℕ) × (IsEncodedAt m.0 bytes at middle
    × IsEncodedAt m.1 bytes middle next
    × IfRow n (named table m.0) ((from ≡ middle) × (to ≡ next)) (ValueLies table n ms bytes next from to))

-- The bytes' leading data item is a map, and the first of its members that names row n has its value between
-- these two offsets.
pub record ValueAt (table : Table) (n : ℕ) (bytes : List ℕ) (from to : ℕ) : Type 0 where
  pub item : Item
  pub len : ℕ
  pub front : IsLeadingItem bytes item len
  pub members : Members
  pub is_map : members_in item ≡ Some members
  pub left : Option ℕ
  pub opening : List ℕ
  pub opens : IsEncodingOfHead (head.Map left) opening
  pub begins : bytes ≡ opening ++ drop (length opening) bytes
  pub lies : ValueLies table n members bytes (length opening) from to

-- The encoding of row n's value in the bytes' leading data item, as it is there, or none if there is no such value.
abbrev pub LendsMember : Table → ℕ → List ℕ → Option (List ℕ) → Type 0
LendsMember table n bytes (Some slice) =
    (from : ℕ) × (to : ℕ) × (ValueAt table n bytes from to × (slice ≡ take (to - from) (drop from bytes)))
LendsMember table n bytes None = (i : Item) (len : ℕ) → IsLeadingItem bytes i len → value_in table n i ≡ None

-- These bytes are followed by what is lent of the message, if anything is.
abbrev pub IsFollowed : Table → ℕ → List ℕ → List ℕ → List ℕ → Type 0
IsFollowed table n message front whole =
    (lent : Option (List ℕ)) × (LendsMember table n message lent × (whole ≡ front ++ unwrap_or lent []))

-- ---- at a cursor

-- The cursor went to the value of row n, among members that are encoded from its old offset on.
abbrev pub ValueEnds : Table → ℕ → Members → CursorState → CursorState → Type 0
ValueEnds table n ms old new = (to : ℕ) × ValueLies table n ms old.bytes old.place new.place to

-- The cursor went from a map to the value of row n.
pub record Entered (table : Table) (n : ℕ) (i : Item) (old new : CursorState) : Type 0 where
  pub members : Members
  pub is_map : members_in i ≡ Some members
  pub left : Option ℕ
  pub opening : List ℕ
  pub opens : IsEncodingOfHead (head.Map left) opening
  pub begins : drop old.place old.bytes ≡ opening ++ drop (old.place + length opening) old.bytes
  pub to : ℕ
  pub lies : ValueLies table n members old.bytes (old.place + length opening) new.place to
  pub same : new.bytes ≡ old.bytes

-- The same, or the item has no such value.
abbrev pub EntersValue : Table → ℕ → Item → CursorState → CursorState → Bool → Type 0
EntersValue table n i old new true = Entered table n i old new
EntersValue table n i old new false = value_in table n i ≡ None
