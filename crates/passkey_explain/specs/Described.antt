-- Data items, described by the shape of a type.
use Rattle.std.specs.Prelude.{ℕ, ◌==◌, Bool, if◌then◌else◌, List, [], ◌∷◌, map}
use Rattle.passkey_explain.specs.Blaming.{name_at}
use Rattle.passkey_explain.specs.declared.description.Description.{Description, fold-Description}
use Rattle.passkey_explain.specs.declared.description.Description.TheOpen.{Description-F}
use Rattle.passkey_explain.specs.declared.description.FieldName.{FieldName}
use Rattle.passkey_kinds.specs.Base.{Item, array, elements, members, item_of}
use Rattle.passkey_kinds.specs.Record.{Naming, row, names}
use Rattle.passkey_kinds.specs.Shape.{Entry, Shape, record_of, Rows, no_rows, entries_in}
use Rattle.passkey_kinds.specs.declared.wanted.Wanted.{Wanted}
use Rattle.passkey_cbor.specs.Item as item
use Rattle.passkey_explain.specs.declared.description.FieldName.TheVariants as code
use Rattle.passkey_kinds.specs.Shape as shape
use Rattle.passkey_kinds.specs.declared.wanted.Wanted.TheVariants as wanted

-- ---- descriptions

pub data Sort : Type 0 where
  list : Sort
  map_of : Sort
  record_of_members : Sort

-- what a part is: an element, the value of a key, a member of a record, or a member that the record's table hasn't
pub data Label : Type 0 where
  element : Label
  key : Item → Label
  member : ℕ → List ℕ → Label
  unknown : Item → Label

-- An item as a whole, and what is wanted of it; or its parts. Parts are a list, written out because a data type
-- can't contain a list of itself.
mutual
  pub data Described : Type 0 where
    leaf : Wanted → Item → Described
    parts : Sort → Parts → Described

  pub data Parts : Type 0 where
    no_parts : Parts
    part : Label → Described → Parts → Parts

abbrev pub Part : Type 0
Part = Label × Described

abbrev pub labelled : Label → Described → Part
labelled l d = (l, d)

abbrev pub parts_from : List Part → Parts
parts_from [] = no_parts
parts_from (p ∷ ps) = part p.0 p.1 (parts_from ps)

-- ---- a data item, described by a shape

unfoldable pub describe_list : (Item → Described) → Item → Described
describe_list of (array xs) = parts list (parts_from (map (λ x. labelled element (of x)) (elements xs)))
describe_list of i = leaf wanted.Array i

unfoldable pub describe_map : (Item → Described) → Item → Described
describe_map of (item.map ps) = parts map_of (parts_from (map (λ m. labelled (key m.0) (of m.1)) (members ps)))
describe_map of i = leaf wanted.Map i

-- a member of a record, by what its key names
abbrev pub describe_member : List Entry → (ℕ → Item → Described) → Naming → Item → Item → Part
describe_member es of (row n) label i = labelled (member n (name_at es n)) (of n i)
describe_member es of _ label i = labelled (unknown label) (leaf wanted.Any i)

unfoldable pub describe_record : Bool → List Entry → (ℕ → Item → Described) → Item → Described
describe_record is_numbered es of (item.map ps) = parts record_of_members
    (parts_from (map (λ m. describe_member es of (names is_numbered es m.0) m.0 m.1) (members ps)))
describe_record is_numbered es of i = leaf wanted.Map i

abbrev mutual
  pub described : Shape → Item → Described
  described (shape.leaf w) i = leaf w i
  described (shape.list accepts s) i = describe_list (described s) i
  described (shape.map accepts s) i = describe_map (described s) i
  described (record_of is_numbered rows) i = describe_record is_numbered (entries_in rows) (described_row rows) i
  described (shape.tolerant accepts s) i = described s i

  pub described_row : Rows → ℕ → Item → Described
  described_row no_rows n i = leaf wanted.Any i
  described_row (shape.row e accepts s rs) n i = if e.number == n then described s i else described_row rs n i

-- ---- the code's type

abbrev pub label_of : FieldName → Label
label_of (code.Member n name) = member n name.now
label_of (code.Unknown v) = unknown (item_of v)

abbrev pub description_step : Description-F Described → Described
description_step (Description-F.Leaf w v) = leaf w (item_of v)
description_step (Description-F.List v) = parts list (parts_from (map (λ d. labelled element d) v.items))
description_step (Description-F.Map v) = parts map_of (parts_from (map (λ p. labelled (key (item_of p.0)) p.1) v.items))
description_step (Description-F.Record v) = parts record_of_members (parts_from (map (λ p. labelled (label_of p.0) p.1) v.items))

abbrev pub described_of : Description → Described
described_of = fold-Description Described description_step
