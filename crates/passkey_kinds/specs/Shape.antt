-- Shapes: what a type is decoded from, part by part.
use Rattle.passkey_kinds.specs.Base.{Item}
use Rattle.std.specs.Prelude.{ℕ, ◌==◌, Bool, true, ◌&&◌, if◌then◌else◌, List, [], ◌∷◌, Option, Some, None}
use Rattle.std.specs.Option.{option_and_then}
use Rattle.passkey_kinds.specs.declared.wanted.Wanted.{Wanted}

-- a member's number, its name, its other name (the same, if it has none), and whether it is required
pub record Entry : Type 0 where
  pub number : ℕ
  pub name : List ℕ
  pub other : List ℕ
  pub is_required : Bool

-- A data item as a whole, and what is wanted of it; an array, a map whose keys are byte strings, or a record. For
-- the elements of an array, the values of a map and the value of each row: which of them are accepted, and their
-- shape. Of a record it is said whether members have numbers. Rows are a list, written out because a data type
-- can't contain a list of itself. Where any item is tolerated: which items are kept, and the shape of these.
mutual
  pub data Shape : Type 0 where
    leaf : Wanted → Shape
    list : (Item → Bool) → Shape → Shape
    map : (Item → Bool) → Shape → Shape
    record_of : Bool → Rows → Shape
    tolerant : (Item → Bool) → Shape → Shape

  pub data Rows : Type 0 where
    no_rows : Rows
    row : Entry → (Item → Bool) → Shape → Rows → Rows

-- which data items are accepted, and their shape
pub record Tested : Type 0 where
  pub accepts : Item → Bool
  pub shape : Shape

-- ---- the parts of a shape

abbrev pub entries_in : Rows → List Entry
entries_in no_rows = []
entries_in (row e a s rs) = e ∷ entries_in rs

abbrev pub row_in : Rows → ℕ → Option Tested
row_in no_rows n = None
row_in (row e a s rs) n = if e.number == n then Some (record { accepts = a; shape = s }) else row_in rs n

-- the elements of a list, the values of a map, or what is under row n of a record
abbrev pub part_of : ℕ → Shape → Option Tested
part_of n (leaf w) = None
part_of n (list a s) = Some (record { accepts = a; shape = s })
part_of n (map a s) = Some (record { accepts = a; shape = s })
part_of n (record_of is_numbered rows) = row_in rows n
part_of n (tolerant a s) = part_of n s

-- whether the item is kept, where any is tolerated
abbrev pub kept_by : Shape → Item → Bool
kept_by (tolerant a s) i = a i && kept_by s i
kept_by _ i = true

-- what a way leads to, part by part
abbrev pub reached : List ℕ → Tested → Option Tested
reached [] t = Some t
reached (n ∷ ns) t = option_and_then (reached ns) (part_of n t.shape)
