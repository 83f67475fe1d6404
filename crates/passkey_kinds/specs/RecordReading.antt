-- Decoding a record over a cursor: its cost and its steps.
use Rattle.passkey_cbor.specs.Lent.{begins_text}
use Rattle.passkey_kinds.specs.Base.{Item, members, CursorState}
use Rattle.std.specs.List.{find}
use Rattle.std.specs.Prelude.{ℕ, ◌+◌, ◌≤◌, max, ◌==◌, Bool, true, false, ◌&&◌, if◌then◌else◌, List, [], ◌∷◌, ◌++◌, map, ◌≡◌, Option, Some, None, Result, Ok, Err, IfSome, OnOk, slice_get}
use Rattle.passkey_kinds.specs.Kind.{CountsLeast, Keeping, Least, least_of, least_sum, no_least, nothing, counted, kept_of, kept_sum, Typed, MayGrow, accepts}
use Rattle.passkey_kinds.specs.Reader.{Spends, SpendsLess}
use Rattle.passkey_kinds.specs.Record.{takes_at, MayGrowIn, MayGrowAt, Reads, entry, naming_of, named_as, Fields, Member, table_of, record_kind, rows_of, put_at, read_members, read_from, progress_of, Progress, one_more, MayGrowBy, read_item, Naming, row, unknown, wrong, named, Members, accepts_at, Entry, row_or_unknown}
use Rattle.passkey_kinds.specs.Shape.{Shape, Rows, record_of, no_rows}
use Rattle.passkey_kinds.specs.declared.fault.Fault.{Fault}
use Rattle.passkey_kinds.specs.declared.fault.Refusal.{Refusal}
use Rattle.passkey_kinds.specs.declared.fault.Refusal.TheVariants.{Refused, OutOfMemory}
use Rattle.passkey_kinds.specs.declared.rows.Named.{Named}
use Rattle.passkey_kinds.specs.declared.rows.Row.{Row}
use Rattle.passkey_kinds.specs.Shape as shape
use Rattle.passkey_kinds.specs.declared.fault.Fault.TheVariants as fault
use Rattle.passkey_cbor.specs.Item as item
use Rattle.passkey_kinds.specs.declared.rows.Row.TheVariants as row

-- ---- the cost of decoding a record over a cursor

-- the greatest cost of a value, and at least 4: 3 for a map key, and 1 to look for the map's end
abbrev pub greatest_cost : {P : Type 0} → List (Member P) → ℕ
greatest_cost [] = 4
greatest_cost (m ∷ ms) = max m.kind.cost (greatest_cost ms)

abbrev pub record_cost : {P : Type 0} → Fields P → ℕ
record_cost t = greatest_cost t.rows

-- the cost of decoding the value of row n
abbrev pub cost_at : {P : Type 0} → List (Member P) → ℕ → ℕ
cost_at [] n = 0
cost_at (m ∷ ms) n = if m.entry.number == n then m.kind.cost else cost_at ms n

-- which data items decoding the value of row n makes as values
abbrev pub keeps_at : {P : Type 0} → List (Member P) → ℕ → Keeping
keeps_at [] n = nothing
keeps_at (m ∷ ms) n = if m.entry.number == n then m.kind.keeps else keeps_at ms n

-- the same by what the map key names; the value under an unknown key is skipped
abbrev pub cost_by : {P : Type 0} → List (Member P) → Naming → ℕ
cost_by rows (row n) = cost_at rows n
cost_by rows unknown = 1
cost_by rows wrong = 0

abbrev pub keeps_by : {P : Type 0} → List (Member P) → Naming → Keeping
keeps_by rows (row n) = keeps_at rows n
keeps_by rows _ = nothing

-- how many data items decoding these members makes as values, by the rows that their keys name
abbrev pub kept_in : {P : Type 0} → Fields P → Members → ℕ
kept_in t ms = kept_sum (λ m. kept_of (keeps_by t.rows (named (table_of t) m.0)) m.1) ms

abbrev pub kept_in_map : {P : Type 0} → Fields P → Item → ℕ
kept_in_map t (item.map ps) = kept_in t (members ps)
kept_in_map t _ = 0

-- what is counted at least for these members, if they make a record
abbrev pub least_in : {P : Type 0} → Fields P → Members → Least
least_in t ms = least_sum (λ m. least_of (keeps_by t.rows (named (table_of t) m.0)) m.1) ms

abbrev pub least_in_map : {P : Type 0} → Fields P → Item → Least
least_in_map t (item.map ps) = least_in t (members ps)
least_in_map t _ = no_least

abbrev pub keeps_nothing : Keeping → Bool
keeps_nothing nothing = true
keeps_nothing (counted most least) = false

abbrev pub none_keeps : {P : Type 0} → List (Member P) → Bool
none_keeps [] = true
none_keeps (m ∷ ms) = keeps_nothing m.kind.keeps && none_keeps ms

abbrev pub record_keeps : {P : Type 0} → Fields P → Keeping
record_keeps t = if none_keeps t.rows then nothing else counted (kept_in_map t) (least_in_map t)

-- ---- its shape

abbrev pub shapes_of : {P : Type 0} → List (Member P) → Rows
shapes_of [] = no_rows
shapes_of (m ∷ ms) = shape.row m.entry (accepts m.kind) m.kind.shape (shapes_of ms)

abbrev pub shape_of : {P : Type 0} → Fields P → Shape
shape_of t = record_of t.is_numbered (shapes_of t.rows)

-- the shape of the value of row n, if there is such a row
abbrev pub shape_at : {P : Type 0} → List (Member P) → ℕ → Option Shape
shape_at [] n = None
shape_at (m ∷ ms) n = if m.entry.number == n then Some m.kind.shape else shape_at ms n

-- a record as a member of another one
abbrev pub nested : {P : Type 0} → Fields P → Typed P
nested t = record {
  of = record_kind t;
  takes = true;
  cost = record_cost t;
  keeps = record_keeps t;
  shape = shape_of t;
}

-- ---- the steps of decoding a record

-- The result of decoding an item into a field: on success, the field's new value is the one that
-- the kind has for the item.
abbrev pub Sets : {A M : Type 0} → (A → M) → Typed M → Item → A → Result (Unit {0}) Refusal → Type 0
Sets view k i new (Ok x) = k.of i ≡ Some (view new)
Sets view k i new (Err Refused) = k.of i ≡ None
Sets view k i new (Err OutOfMemory) = MayGrow k.takes i

-- The result of decoding an item for row n into a record, and the record after it.
abbrev pub Puts : {P : Type 0} → Fields P → ℕ → Item → P → P → Result (Unit {0}) Refusal → Type 0
Puts t n i old new (Ok x) = (accepts_at (rows_of t.rows) n i ≡ true) × (put_at t.rows n i old ≡ new)
Puts t n i old new (Err Refused) = accepts_at (rows_of t.rows) n i ≡ false
Puts t n i old new (Err OutOfMemory) = MayGrow (takes_at (rows_of t.rows) n) i

-- The members before the rest have no fault, and the record holds their values.
pub record HasReadTo {P : Type 0} (t : Fields P) (ms rest : Members) (held : P) (marks : List Bool) : Type 0 where
  pub same : read_members t ms ≡ read_from t rest (progress_of held marks)
  pub grows : MayGrowIn (table_of t) rest → MayGrowIn (table_of t) ms

-- ---- over a cursor

-- Decoding a map key that ends at `to`.
pub record ReadsKey (wanted : Naming) (to : ℕ) (old new : CursorState) (found : Option Named) : Type 0 where
  pub is : naming_of found ≡ wanted
  pub spends : Spends 3 0 to old new
  pub ends : IfSome found (λ key. new.place ≡ to)

-- Decoding a map key by one of the ways to name a row, at this cost; nothing is said if it names none
-- in this way.
pub record FoundRow (wanted : Naming) (cost to : ℕ) (old new : CursorState) (found : Named) : Type 0 where
  pub is : named_as found ≡ wanted
  pub spends : Spends cost 0 to old new
  pub ends : new.place ≡ to

abbrev pub FindsRow : Naming → ℕ → ℕ → CursorState → CursorState → Option Named → Type 0
FindsRow wanted cost to old new (Some found) = FoundRow wanted cost to old new found
FindsRow wanted cost to old new None = Unit {0}

-- No row's own name begins the bytes, as a text string with a head of one byte.
abbrev pub BeginsNoName : List Entry → List ℕ → Type 0
BeginsNoName rows bytes = find (λ e. begins_text e.name bytes) rows ≡ None

-- The cursor doesn't move, and counts at most two heads.
pub record LooksTwice (old new : CursorState) : Type 0 where
  pub place : new.place ≡ old.place
  pub heads : new.heads ≤ old.heads + 2
  pub nodes : new.nodes ≡ old.nodes
  pub bytes : new.bytes ≡ old.bytes

-- Decoding a record from a data item that ends at `to`.
pub record DecodesRecord {A P : Type 0} (view : A → P) (t : Fields P) (i : Item) (to : ℕ) (old new : CursorState)
    (result : Result A Fault) : Type 0 where
  pub answers : Reads view (MayGrowAt (table_of t) i) (read_item t i) result
  pub spends : Spends (record_cost t) (kept_in_map t i) to old new
  pub ends : OnOk result (new.place ≡ to)
  pub counts : OnOk result (CountsLeast (least_in_map t i) old new)

-- The same for one member, by what its map key names.
pub record DecodesMember {P : Type 0} (t : Fields P) (naming : Naming) (m : Item × Item) (before after : Progress P)
    (to : ℕ) (old new : CursorState) (result : Result (Unit {0}) Fault) : Type 0 where
  pub answers : Reads (λ _. after) (MayGrowBy (table_of t) naming m.1) (one_more t naming m.1 before) result
  pub spends : SpendsLess (record_cost t) (kept_of (keeps_by t.rows naming) m.1) to old new
  pub ends : OnOk result (new.place ≡ to)
  pub counts : OnOk result (CountsLeast (least_of (keeps_by t.rows naming) m.1) old new)

-- The same for the members that follow a map's head.
pub record DecodesMembers {A P : Type 0} (view : A → P) (t : Fields P) (ms : Members) (to : ℕ) (old new : CursorState)
    (result : Result A Fault) : Type 0 where
  pub answers : Reads view (MayGrowIn (table_of t) ms) (read_members t ms) result
  pub spends : Spends (record_cost t) (kept_in t ms) to old new
  pub ends : OnOk result (new.place ≡ to)
  pub counts : OnOk result (CountsLeast (least_in t ms) old new)

-- The result for a record inside another one: each fault but `OutOfMemory` becomes `Refused`.
abbrev pub as_nested : {A : Type 0} → Result A Fault → Result A Refusal
as_nested (Ok x) = Ok x
as_nested (Err fault.OutOfMemory) = Err OutOfMemory
as_nested (Err _) = Err Refused

-- ---- the code's rows, as entries of a table

abbrev pub entry_of : Row → Entry
entry_of (row.Required n name) = entry n name.now true
entry_of (row.Optional n name) = entry n name.now false
entry_of (row.Aliased n name other) =
    record { number = n; name = name.now; other = other.now; is_required = false }

-- the rows' names, then their other names
abbrev pub both_names : List Entry → List (List ℕ)
both_names rows = map (λ e. e.name) rows ++ map (λ e. e.other) rows

-- the row that has the name at an index of these, if there is one
abbrev pub row_at : List Entry → Option ℕ → Naming
row_at rows (Some i) = row_or_unknown (slice_get (rows ++ rows) i)
row_at rows None = unknown
