-- Records as tables of members, and how they are decoded.
use Rattle.std.specs.Prelude.{◌≡◌, ℕ, ◌==◌, ◌||◌, ◌&&◌, not, Bool, true, false, List, [], ◌∷◌, Option, Some, None, Result, Ok}
use Rattle.std.specs.Str.{bytes_eq}
use Rattle.passkey_json.specs.Along.{AreSound, Sound, Strict}
use Rattle.passkey_json.specs.Fault.{Fault, fault_in}
use Rattle.passkey_json.specs.MemberLaws.{Judges}
use Rattle.passkey_json.specs.Members.{◌>>=◌, Object, Member, member, under, aliased, in_object, takes_at}
use Rattle.passkey_json.specs.Written.{EncodedMember, written}
use Rattle.passkey_json.specs.Shape.{Entry, Shape, Rows, no_rows, row, record_of}
use Rattle.passkey_json.specs.declared.bytes_form.BytesForm.{BytesForm}
use Rattle.serde_json.specs.Data.{Data}

-- ---- members

-- A member of the record P: its names; the values whose decoding may take memory; those that are accepted, and what
-- they are decoded from, part by part; how it is decoded, which part of the record its value is, and how that is
-- encoded; what is known of an encoded one (Back), so that it decodes to the value; and the laws by which is found what
-- is to blame.
pub record JsonMember (P : Type 0) : Type 1 where
  pub Value : Type 0
  pub entry : Entry
  pub takes : Data → Bool
  pub accepts : Data → Bool
  pub shape : Shape
  pub read : Member → Result Value Fault
  pub get : P → Value
  pub set : Value → P → P
  pub json : BytesForm → Value → Option Data
  pub Back : BytesForm → Value → Type 0
  pub back : (form : BytesForm) (x : Value) → Back form x → read (under entry.name (json form x)) ≡ Ok x
  pub judges : Judges read accepts
  pub strict : Strict accepts shape
  pub sound : Sound shape

abbrev pub either_name : List ℕ → Option (List ℕ) → Object → Result Member Fault
either_name name None object = Ok (member name object)
either_name name (Some other) object = aliased name other object

-- the member under its name, or under its other one
abbrev pub looked : Entry → Object → Result Member Fault
looked e object = either_name e.name e.other object

abbrev pub takes_either : (Data → Bool) → List ℕ → Option (List ℕ) → Object → Bool
takes_either takes name None object = takes_at takes (object name)
takes_either takes name (Some other) object = takes_at takes (object name) || takes_at takes (object other)

-- the record with the member that was found
abbrev pub put_found : {P : Type 0} → JsonMember P → Member → P → Result P Fault
put_found m found r = m.read found >>= λ x. Ok (m.set x r)

-- what the member is encoded as
abbrev pub encoded : {P : Type 0} → JsonMember P → BytesForm → P → Option Data
encoded m form x = m.json form (m.get x)

-- what is known of an encoded member
abbrev pub IsBack : {P : Type 0} → JsonMember P → BytesForm → P → Type 0
IsBack m form x = m.Back form (m.get x)

-- ---- tables

-- what the members put into the record, in the table's order
abbrev pub read_all : {P : Type 0} → List (JsonMember P) → Object → P → Result P Fault
read_all [] object r = Ok r
read_all (m ∷ ms) object r =
    looked m.entry object >>= λ found. m.read found >>= λ x. read_all ms object (m.set x r)

-- one of the members is present, with a value whose decoding may take memory
abbrev pub take_any : {P : Type 0} → List (JsonMember P) → Object → Bool
take_any [] object = false
take_any (m ∷ ms) object = takes_either m.takes m.entry.name m.entry.other object || take_any ms object

-- decoding takes no memory, whatever the members' values are
abbrev pub TakeNothing : {P : Type 0} → List (JsonMember P) → Type 0
TakeNothing [] = Unit {0}
TakeNothing (m ∷ ms) = ((d : Data) → m.takes d ≡ false) × TakeNothing ms

abbrev pub rows_of : {P : Type 0} → List (JsonMember P) → BytesForm → P → List EncodedMember
rows_of [] form x = []
rows_of (m ∷ ms) form x = (m.entry.name, encoded m form x) ∷ rows_of ms form x

-- what is known of the encoded members
abbrev pub AreBack : {P : Type 0} → List (JsonMember P) → BytesForm → P → Type 0
AreBack [] form x = Unit {0}
AreBack (m ∷ ms) form x = IsBack m form x × AreBack ms form x

-- all members of the one record, put into the other
abbrev pub copied : {P : Type 0} → List (JsonMember P) → P → P → P
copied [] x r = r
copied (m ∷ ms) x r = copied ms x (m.set (m.get x) r)

-- the members' names
abbrev pub entries : {P : Type 0} → List (JsonMember P) → List Entry
entries [] = []
entries (m ∷ ms) = m.entry ∷ entries ms

abbrev pub has_number : ℕ → List Entry → Bool
has_number n [] = false
has_number n (e ∷ es) = (n == e.number) || has_number n es

abbrev pub is_other : List ℕ → Option (List ℕ) → Bool
is_other name None = false
is_other name (Some other) = bytes_eq name other

-- one of the members has this name
abbrev pub uses : List ℕ → List Entry → Bool
uses name [] = false
uses name (e ∷ es) = bytes_eq name e.name || (is_other name e.other || uses name es)

abbrev pub is_other_apart : List ℕ → Option (List ℕ) → List Entry → Bool
is_other_apart name None es = true
is_other_apart name (Some other) es = not (bytes_eq other name || uses other es)

-- no number and no name occurs twice
abbrev pub are_distinct : List Entry → Bool
are_distinct [] = true
are_distinct (e ∷ es) = not (has_number e.number es)
    && (not (uses e.name es) && (is_other_apart e.name e.other es && are_distinct es))

-- What a record holds before a member is decoded, and its members in the order in which they are
-- decoded and encoded. The members are all of the record, and have each number and each name once.
pub record PlainTable (P : Type 0) : Type 1 where
  pub blank : P
  pub members : List (JsonMember P)
  pub sound : (x : P) → (copied members x blank ≡ x) × (are_distinct (entries members) ≡ true)

-- each number and each name occurs once
pub distinct : {P : Type 0} (t : PlainTable P) → are_distinct (entries t.members) ≡ true
distinct t = (t.sound t.blank).1

-- the record that an object decodes to, or the first fault in the table's order
abbrev pub members_in : {P : Type 0} → PlainTable P → Object → Result P Fault
members_in t object = read_all t.members object t.blank

-- whether a member is present whose decoding may take memory
abbrev pub takes_of : {P : Type 0} → PlainTable P → Object → Bool
takes_of t object = take_any t.members object

-- the object that a record is encoded as
abbrev pub table_json : {P : Type 0} → PlainTable P → BytesForm → P → Data
table_json t form x = written (rows_of t.members form x)

-- what the members are decoded from
abbrev pub rows_in : {P : Type 0} → List (JsonMember P) → Rows
rows_in [] = no_rows
rows_in (m ∷ ms) = row m.entry m.accepts m.shape (rows_in ms)

pub rows_sound : {P : Type 0} (ms : List (JsonMember P)) → AreSound (rows_in ms)
rows_sound [] = tt
rows_sound (m ∷ ms) = (m.sound, rows_sound ms)

abbrev pub table_shape : {P : Type 0} → PlainTable P → Shape
table_shape t = record_of (λ d. fault_in (in_object (members_in t) d)) (rows_in t.members)
