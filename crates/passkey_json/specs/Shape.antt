-- Shapes: what a type is decoded from, part by part, and what in a JSON value a shape finds to blame.
use Rattle.std.specs.Prelude.{ℕ, suc, ◌==◌, Bool, if◌then◌else◌, List, [], ◌∷◌, Option, Some, None, option_map, is_some}
use Rattle.std.specs.Option.{option_and_then}
use Rattle.std.specs.Str.{bytes_eq}
use Rattle.passkey_json.specs.Fault.{Fault, refused, float}
use Rattle.passkey_json.specs.declared.row.Row.{Row}
use Rattle.passkey_json.specs.declared.row.Row.TheVariants as code
use Rattle.passkey_json.specs.declared.wanted.WantedJson.{WantedJson}
use Rattle.serde_json.specs.Data.{Data, array, object, Items, no_items, item, Members, no_members, member}
use Rattle.serde_json.specs.Find.{get, at}

-- a member's number, its name, and its other name if it has one
pub record Entry : Type 0 where
  pub number : ℕ
  pub name : List ℕ
  pub other : Option (List ℕ)

abbrev pub entry_of : Row → Entry
entry_of (code.Named number name) = record { number = number; name = name.now; other = None }
entry_of (code.Aliased number name other) = record { number = number; name = name.now; other = Some other.now }

-- A JSON value as a whole, and what is wanted of it; an array, an object with any names, or a record. For the elements
-- of an array, the members of an object and the row of each member: which of them are accepted, and their shape. Of a
-- record, the fault of decoding it from a JSON value. Where any value is tolerated, which of them are kept. Rows are a
-- list, written out because a data type can't contain a list of itself.
mutual
  pub data Shape : Type 0 where
    leaf : WantedJson → Shape
    list : (Data → Bool) → Shape → Shape
    map : (Data → Bool) → Shape → Shape
    record_of : (Data → Option Fault) → Rows → Shape
    tolerant : (Data → Bool) → Shape → Shape

  pub data Rows : Type 0 where
    no_rows : Rows
    row : Entry → (Data → Bool) → Shape → Rows → Rows

-- which JSON values are accepted, and their shape
pub record Tested : Type 0 where
  pub accepts : Data → Bool
  pub shape : Shape

abbrev pub tested : {A : Type 0} → (Data → Option A) → Shape → Tested
tested kind s = record { accepts = λ d. is_some (kind d); shape = s }

abbrev pub entries_in : Rows → List Entry
entries_in no_rows = []
entries_in (row e a s rs) = e ∷ entries_in rs

abbrev pub row_in : Rows → ℕ → Option Tested
row_in no_rows n = None
row_in (row e a s rs) n = if n == e.number then Some (record { accepts = a; shape = s }) else row_in rs n

-- ---- what is to blame

-- a step from a JSON value into it: to a member of an object, or to an element of an array
pub data Step : Type 0 where
  named : List ℕ → Step
  element : ℕ → Step

abbrev pub part_at : Step → Data → Option Data
part_at (named name) d = get name d
part_at (element n) d = at n d

-- a part of a JSON value, and what it is decoded as
pub record Part : Type 0 where
  pub step : Step
  pub value : Data
  pub as_part : Tested

abbrev pub part : Step → Data → Tested → Part
part s d t = record { step = s; value = d; as_part = t }

-- the first element that is refused
abbrev pub first_element : Tested → ℕ → Items → Option Part
first_element t n no_items = None
first_element t n (item d ds) = if t.accepts d then first_element t (suc n) ds else Some (part (element n) d t)

-- the first member that is refused
abbrev pub first_member : Tested → Members → Option Part
first_member t no_members = None
first_member t (member name d ms) = if t.accepts d then first_member t ms else Some (part (named name) d t)

-- the row with this name
abbrev pub entry_named : List Entry → List ℕ → Option Entry
entry_named [] name = None
entry_named (e ∷ es) name = if bytes_eq name e.name then Some e else entry_named es name

abbrev pub own_present : List ℕ → Option Data → Option (List ℕ × Data) → Option (List ℕ × Data)
own_present name (Some x) other = Some (name, x)
own_present name None other = other

abbrev pub other_present : Option (List ℕ) → Data → Option (List ℕ × Data)
other_present None d = None
other_present (Some name) d = option_map (λ x. (name, x)) (get name d)

-- the member's value, and the name under which it is present
abbrev pub present_in : Entry → Data → Option (List ℕ × Data)
present_in e d = own_present e.name (get e.name d) (other_present e.other d)

-- that value, decoded as row n
abbrev pub decoded_as : Rows → ℕ → Option (List ℕ × Data) → Option Part
decoded_as rows n o = option_and_then (λ q. option_map (part (named q.0) q.1) (row_in rows n)) o

abbrev pub entry_at : Rows → Data → Entry → Option Part
entry_at rows d e = decoded_as rows e.number (present_in e d)

abbrev pub row_at : Rows → List ℕ → Data → Option Part
row_at rows name d = option_and_then (entry_at rows d) (entry_named (entries_in rows) name)

-- the member whose value is the record's first fault
abbrev pub faulty_row : Rows → Option Fault → Data → Option Part
faulty_row rows (Some (refused name)) d = row_at rows name d
faulty_row rows (Some (float name)) d = row_at rows name d
faulty_row rows _ d = None

-- The part of a JSON value that the shape blames, if it finds something to blame within the value: the first element
-- or member that is refused; of a record, the member that its fault names.
abbrev pub within : Shape → Data → Option Part
within (leaf w) d = None
within (list a s) (array ds) = first_element (record { accepts = a; shape = s }) 0 ds
within (list a s) d = None
within (map a s) (object ms) = first_member (record { accepts = a; shape = s }) ms
within (map a s) d = None
within (record_of fault rows) d = faulty_row rows (fault d) d
within (tolerant keeps s) d = within s d
