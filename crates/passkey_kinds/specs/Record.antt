-- Records as tables of members, and what a data item decodes to by such a table.
use Rattle.passkey_kinds.specs.Base.{Item, number, text_string, byte_string, members}
use Rattle.std.specs.Prelude.{ℕ, ◌==◌, Bool, true, false, ◌&&◌, ◌||◌, if◌then◌else◌, List, [], ◌∷◌, map, Option, Some, None, is_some, option_map, Result, Ok, Err, ◌≡◌, nat_lt, ◌⊎◌, get_or, not, replicate}
use Rattle.passkey_kinds.specs.Kind.{number_from, Kind, Typed, MayGrow}
use Rattle.passkey_kinds.specs.declared.fault.Fault.{Fault}
use Rattle.passkey_kinds.specs.declared.fault.Fault.TheVariants.{BadKey, Repeated, Refused, NotAMap, Missing}
use Rattle.passkey_kinds.specs.declared.rows.Named.{Named}
pub use Rattle.passkey_kinds.specs.Shape.{Entry}
use Rattle.std.specs.List.{find}
use Rattle.std.specs.Option.{option_or}
use Rattle.std.specs.Result.{result_ok}
use Rattle.std.specs.Str.{bytes_eq}
use Rattle.passkey_kinds.specs.declared.rows.Named.TheVariants as code
use Rattle.passkey_kinds.specs.declared.fault.Fault.TheVariants as fault
use Rattle.passkey_cbor.specs.Item as item

-- ---- tables of members

pub record Row : Type 0 where
  pub entry : Entry
  pub accepts : Item → Bool
  pub takes : Bool

-- A table of members. They have numbers and names, or names alone.
pub record Table : Type 0 where
  pub is_numbered : Bool
  pub rows : List Row

abbrev pub entries : Table → List Entry
entries table = map (λ r. r.entry) table.rows

-- What a map key names: a row, by its number; or nothing in the table; or the key is wrong.
pub data Naming : Type 0 where
  row : ℕ → Naming
  unknown : Naming
  wrong : Naming

abbrev pub row_or_unknown : Option Entry → Naming
row_or_unknown (Some e) = row e.number
row_or_unknown None = unknown

-- the row with this name; if none has it, the one whose other name it is
abbrev pub row_named : List Entry → List ℕ → Naming
row_named rows name =
    row_or_unknown (option_or (find (λ e. bytes_eq e.name name) rows) (find (λ e. bytes_eq e.other name) rows))

-- no row has this name as its own
abbrev pub HasNoName : List Entry → List ℕ → Type 0
HasNoName rows name = find (λ e. bytes_eq e.name name) rows ≡ None

-- what an integer names: if members have numbers and it is below 256, the row with this number, if
-- there is one
abbrev pub number_names : Bool → Option ℕ → List Entry → Naming
number_names true (Some n) rows = row_or_unknown (find (λ e. e.number == n) rows)
number_names true None rows = wrong
number_names false n rows = wrong

abbrev pub names : Bool → List Entry → Item → Naming
names is_numbered rows (number z) = number_names is_numbered (number_from 256 (number z)) rows
names is_numbered rows (text_string name) = row_named rows name
names is_numbered rows (byte_string name) = row_named rows name
names is_numbered rows _ = wrong

abbrev pub Members : Type 0
Members = List (Item × Item)

abbrev pub named : Table → Item → Naming
named table key = names table.is_numbered (entries table) key

-- whether the kind of row n accepts the item
abbrev pub accepts_at : List Row → ℕ → Item → Bool
accepts_at [] n i = false
accepts_at (r ∷ rs) n i = if r.entry.number == n then r.accepts i else accepts_at rs n i

infixl 10 ◌>>=◌
abbrev pub ◌>>=◌ : {X Y : Type 0} → Option X → (X → Option Y) → Option Y
None >>= f = None
(Some x) >>= f = f x

-- ---- records as tables of members, each with the function that puts its value into the record

-- A member of a record: its number and names, its kind, and the function that puts its value into
-- the record.
pub record Member (P : Type 0) : Type 1 where
  pub Of : Type 0
  pub entry : Entry
  pub kind : Typed Of
  pub set : Of → P → P

-- A record's members, and the blank record, before a member is decoded: its defaults, with any
-- value for each required member.
pub record Fields (P : Type 0) : Type 1 where
  pub is_numbered : Bool
  pub blank : P
  pub rows : List (Member P)

abbrev pub entry : ℕ → List ℕ → Bool → Entry
entry n name is_required = record { number = n; name = name; other = name; is_required = is_required }

abbrev pub required : {M P : Type 0} → ℕ → List ℕ → Typed M → (M → P → P) → Member P
required {M} n name kind set = record { Of = M; entry = entry n name true; kind = kind; set = set }

abbrev pub default : {M P : Type 0} → ℕ → List ℕ → Typed M → (M → P → P) → Member P
default {M} n name kind set = record { Of = M; entry = entry n name false; kind = kind; set = set }

-- an optional member that is also decoded under another name
abbrev pub default_or : {M P : Type 0} → ℕ → List ℕ → List ℕ → Typed M → (M → P → P) → Member P
default_or {M} n name other kind set = record {
  Of = M;
  entry = record { number = n; name = name; other = other; is_required = false };
  kind = kind;
  set = set;
}

abbrev pub row_of : {P : Type 0} → Member P → Row
row_of m = record { entry = m.entry; accepts = λ i. is_some (m.kind.of i); takes = m.kind.takes }

abbrev pub rows_of : {P : Type 0} → List (Member P) → List Row
rows_of [] = []
rows_of (m ∷ ms) = row_of m ∷ rows_of ms

abbrev pub table_of : {P : Type 0} → Fields P → Table
table_of t = record { is_numbered = t.is_numbered; rows = rows_of t.rows }

-- the record with a value, if there is one
abbrev pub set_with : {M P : Type 0} → (M → P → P) → Option M → P → P
set_with set (Some v) r = set v r
set_with set None r = r

-- the record with the value that row n decodes from the item, if it accepts the item
abbrev pub put_at : {P : Type 0} → List (Member P) → ℕ → Item → P → P
put_at [] n i r = r
put_at (m ∷ ms) n i r = if m.entry.number == n then set_with m.set (m.kind.of i) r else put_at ms n i r

-- How far decoding has come: which rows were named so far, and the record with their values.
pub record Progress (P : Type 0) : Type 0 where
  pub seen : ℕ → Bool
  pub made : P

-- one more member, by what its key names: its fault, or the record with its value
abbrev pub one_more : {P : Type 0} → Fields P → Naming → Item → Progress P → Result (Progress P) Fault
one_more t wrong i s = Err BadKey
one_more t unknown i s = Ok s
one_more t (row n) i s =
    if s.seen n then Err (Repeated n)
    else (if accepts_at (rows_of t.rows) n i
    then Ok (record { seen = λ k. (k == n) || s.seen k; made = put_at t.rows n i s.made }) else Err (Refused n))

-- the number of the first required row that wasn't named
abbrev pub first_missing : List Entry → (ℕ → Bool) → Option ℕ
first_missing rows seen = option_map (λ (e : Entry). e.number)
    (find (λ (e : Entry). e.is_required && not (seen e.number)) rows)

abbrev pub unless_missing : {P : Type 0} → Option ℕ → P → Result P Fault
unless_missing (Some n) r = Err (Missing n)
unless_missing None r = Ok r

abbrev pub result_and_then : {A B E : Type 0} → (A → Result B E) → Result A E → Result B E
result_and_then f (Ok x) = f x
result_and_then f (Err e) = Err e

-- the record that the rest of the members makes of this one, or the first fault
abbrev pub read_from : {P : Type 0} → Fields P → Members → Progress P → Result P Fault
read_from t [] s = unless_missing (first_missing (entries (table_of t)) s.seen) s.made
read_from t (m ∷ ms) s = result_and_then (λ n. read_from t ms n) (one_more t (named (table_of t) m.0) m.1 s)

-- The fault of the first bad member; otherwise that of the first required row that is missing;
-- otherwise the record.
abbrev pub read_members : {P : Type 0} → Fields P → Members → Result P Fault
read_members t ms = read_from t ms (record { seen = λ n. false; made = t.blank })

-- the record that an item decodes to, or its first fault
abbrev pub read_item : {P : Type 0} → Fields P → Item → Result P Fault
read_item t (item.map ps) = read_members t (members ps)
read_item t _ = Err NotAMap

-- a record as a kind
abbrev pub record_kind : {P : Type 0} → Fields P → Kind P
record_kind t i = result_ok (read_item t i)

-- ---- the result of decoding a record, and the steps of decoding it

-- whether decoding the value of row n may take memory
abbrev pub takes_at : List Row → ℕ → Bool
takes_at [] n = false
takes_at (r ∷ rs) n = if r.entry.number == n then r.takes else takes_at rs n

abbrev pub MayGrowBy : Table → Naming → Item → Type 0
MayGrowBy table (row n) i = MayGrow (takes_at table.rows n) i
MayGrowBy table unknown i = ⊥
MayGrowBy table wrong i = ⊥

-- decoding one of these members may allocate memory
abbrev pub MayGrowIn : Table → Members → Type 0
MayGrowIn table [] = ⊥
MayGrowIn table (m ∷ ms) = MayGrowBy table (named table m.0) m.1 ⊎ MayGrowIn table ms

abbrev pub MayGrowAt : Table → Item → Type 0
MayGrowAt table (item.map ps) = MayGrowIn table (members ps)
MayGrowAt table _ = ⊥

-- The result of decoding a record: one whose view is the wanted record; the wanted fault; or
-- `OutOfMemory`, only if decoding may allocate memory. It is never `DecodeFailed`.
abbrev pub Reads : {A M : Type 0} → (A → M) → Type 0 → Result M Fault → Result A Fault → Type 0
Reads view takes wanted (Ok x) = wanted ≡ Ok (view x)
Reads view takes wanted (Err fault.OutOfMemory) = takes
Reads view takes wanted (Err fault.DecodeFailed) = ⊥
Reads view takes wanted (Err e) = wanted ≡ Err e

-- what a map key names, for the code's type
abbrev pub named_as : Named → Naming
named_as (code.Row n) = row n
named_as code.Unknown = unknown

abbrev pub naming_of : Option Named → Naming
naming_of (Some key) = named_as key
naming_of None = wrong

-- the marks of 256 rows of which none is marked
unfoldable pub unmarked : List Bool
unmarked = replicate 256 false

-- the record so far, and the rows that are marked
abbrev pub progress_of : {P : Type 0} → P → List Bool → Progress P
progress_of held marks = record { seen = λ n. get_or marks n false; made = held }
