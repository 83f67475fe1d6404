-- Lending a member's byte string out of a message's bytes.
use Rattle.passkey_kinds.specs.Base.{Item, byte_string, members, IsEncodedAt, HoldsString, DataParts}
use Rattle.std.specs.Prelude.{◌≡◌, ℕ, ◌==◌, Bool, true, false, if◌then◌else◌, List, [], ◌∷◌, Option, Some, None, Ok}
use Rattle.std.specs.Option.{option_and_then}
use Rattle.passkey_cbor.specs.LeadingItem.{IsLeadingItem}
use Rattle.passkey_cbor.specs.Lent.{Region}
use Rattle.passkey_cbor.specs.CursorState.{CursorState}
use Rattle.passkey_core.specs.DataRead.{read_data}
use Rattle.passkey_kinds.specs.Message.{Begins}
use Rattle.passkey_kinds.specs.Record.{Table, Naming, row, wrong, named, Members, Fields, table_of, read_item}
use Rattle.passkey_cbor.specs.Item as item

abbrev pub is_row : ℕ → Naming → Bool
is_row n (row k) = k == n
is_row n _ = false

-- the value of the first member that names row n, unless a wrong key comes before it
abbrev pub value_if : ℕ → Naming → Item → Option Item → Option Item
value_if n wrong i others = None
value_if n naming i others = if is_row n naming then Some i else others

abbrev pub value_among : Table → ℕ → Members → Option Item
value_among table n [] = None
value_among table n (m ∷ ms) = value_if n (named table m.0) m.1 (value_among table n ms)

abbrev pub string_in : Item → Option (List ℕ)
string_in (byte_string s) = Some s
string_in _ = None

-- the byte string that is this value of a map
abbrev pub string_of_row : Table → ℕ → Item → Option (List ℕ)
string_of_row table n (item.map ps) = option_and_then string_in (value_among table n (members ps))
string_of_row table n _ = None

-- The cursor is at the wanted value, or there is none.
abbrev pub FindsValue : Option Item → CursorState → Bool → Type 0
FindsValue wanted new true = (i : Item) × (to : ℕ) × ((wanted ≡ Some i) × IsEncodedAt i new.bytes new.place to)
FindsValue wanted new false = wanted ≡ None

-- The wanted string is lent, or there is none.
abbrev pub LendsWanted : Option (List ℕ) → Option Region → Type 0
LendsWanted wanted (Some r) = (s : List ℕ) × ((wanted ≡ Some s) × HoldsString false r s)
LendsWanted wanted None = wanted ≡ None

-- The byte string of row n in the bytes' leading data item is lent, or there is none.
abbrev pub LendsRow : Table → ℕ → List ℕ → Option Region → Type 0
LendsRow table n bytes (Some r) = Begins bytes (λ i len. LendsWanted (string_of_row table n i) (Some r))
LendsRow table n bytes None = (i : Item) (len : ℕ) → IsLeadingItem bytes i len → string_of_row table n i ≡ None

-- If an item is decoded as a message, the byte string of row 2 is lent, and is what the authenticator data were
-- decoded from.
abbrev pub AuthDataAreLent : {P : Type 0} → Fields P → (P → DataParts) → Type 0
AuthDataAreLent {P} t auth_data = (i : Item) (p : P) → read_item t i ≡ Ok p
    → (s : List ℕ) × ((string_of_row (table_of t) 2 i ≡ Some s) × (read_data s ≡ Ok (auth_data p)))
