-- Data items as C sees them.
use Rattle.std.specs.Prelude.{◌≡◌, ◌-◌, ◌^◌, ℕ, zero, suc, List, Bool, true, false, Option, Some, None, unwrap_or}
use Rattle.passkey_cbor.specs.Item.{Item as DataItem}
use Rattle.passkey_cbor.specs.LeadingItem.{IsLeadingItem, HasNoLeadingItem}
use Rattle.passkey_cbor.specs.declared.head.Head.{Head}
use Rattle.passkey_cbor.specs.declared.head.Head.TheVariants as head
use Rattle.passkey_view.specs.declared.item_view.ItemView.{ItemView}
use Rattle.passkey_view_c.specs.declared.item.Item.{Item}

-- the major type (RFC 8949, section 3.1), and 8 for a float
abbrev pub type_of : Head → ℕ
type_of (head.Unsigned n) = 0
type_of (head.Negative n) = 1
type_of (head.Bytes len) = 2
type_of (head.Text len) = 3
type_of (head.Array len) = 4
type_of (head.Map len) = 5
type_of (head.Tag n) = 6
type_of (head.Simple n) = 7
type_of head.Break = 7
type_of (head.Float f) = 8

abbrev pub length_of : Option ℕ → ℕ
length_of len = unwrap_or len (2 ^ 64 - 1)

-- the argument, a float's bits, or 2^64 - 1 for an indefinite length
abbrev pub number_of : Head → ℕ
number_of (head.Unsigned n) = n
number_of (head.Negative n) = n
number_of (head.Bytes len) = length_of len
number_of (head.Text len) = length_of len
number_of (head.Array len) = length_of len
number_of (head.Map len) = length_of len
number_of (head.Tag n) = n
number_of (head.Simple n) = n
number_of head.Break = 31
number_of (head.Float f) = f.bits

abbrev pub item_of : ItemView → Item
item_of v = record { number = number_of v.head; from = v.from; content = v.content; end = v.end; kind = type_of v.head }

-- What was found is written; if nothing was, the output stays as it was.
abbrev pub Fills : {A B : Type 0} → (A → B) → Option A → B → B → Bool → Type 0
Fills see (Some x) old new found = (found ≡ true) × (new ≡ see x)
Fills see None old new found = (found ≡ false) × (new ≡ old)

-- What is there is written, and the result is true; if nothing is there, the output stays as it was, and the
-- result is false.
abbrev pub WritesAs : {A B : Type 0} → (A → B) → Type 0 → (A → Type 0) → B → B → Bool → Type 0
WritesAs {A} see none some old new true = (x : A) × (some x × (new ≡ see x))
WritesAs see none some old new false = none × (new ≡ old)

abbrev pub Writes : Type 0 → (ItemView → Type 0) → Item → Item → Bool → Type 0
Writes = WritesAs item_of

-- The length of the leading data item, or 0 if there is none.
abbrev pub IsItemLength : List ℕ → ℕ → Type 0
IsItemLength bytes zero = HasNoLeadingItem bytes
IsItemLength bytes (suc n) = (x : DataItem) × IsLeadingItem bytes x (suc n)
