-- Tables of records: one table says how a record is decoded and how it is encoded.
use Rattle.std.specs.Prelude.{ℕ, ◌==◌, Bool, true, false, List, [], ◌∷◌, Option, Some, None, option_map, Result, Ok, if◌then◌else◌, ◌≡◌}
use Rattle.passkey_json.specs.Along.{Sound, Strict, accepts, accepted_shape, accepted_strict, any_strict, option_strict, tolerant_shape}
use Rattle.passkey_json.specs.Coded.{Coded, list_value}
use Rattle.passkey_json.specs.Fault.{Fault}
use Rattle.passkey_json.specs.Kind.{Kind, optional, accepted}
use Rattle.passkey_json.specs.MemberLaws as law
use Rattle.passkey_json.specs.MemberLaws.{Judges}
use Rattle.passkey_json.specs.Members.{Member, under, record_kind, takes_in, required, required_tolerated, or_default, if_present, tolerated, accepted_list}
pub use Rattle.passkey_json.specs.Record.{JsonMember, either_name, looked, takes_either, put_found, encoded, IsBack, read_all, take_any, TakeNothing, rows_of, AreBack, copied, entries, has_number, is_other, uses, is_other_apart, are_distinct, PlainTable, distinct, members_in, takes_of, table_json, rows_in, rows_sound, table_shape}
use Rattle.passkey_json.specs.RecordAlong.{record_strict}
use Rattle.passkey_json.specs.Shape.{Shape}
use Rattle.passkey_json.specs.Written.{ReadsBack, ReadsBackIf}
use Rattle.passkey_json.specs.declared.bytes_form.BytesForm.{BytesForm}
use Rattle.serde_json.specs.Data.{Data}

-- a record inside another one
abbrev pub nested : {P : Type 0} → PlainTable P → Coded P
nested t = record {
  kind = record_kind (members_in t);
  takes = takes_in (takes_of t);
  json = table_json t;
  shape = table_shape t;
  strict = record_strict t;
  sound = rows_sound t.members;
}

-- ---- the member with a number

abbrev pub read_from : {P : Type 0} → List (JsonMember P) → ℕ → Member → P → Result P Fault
read_from [] n = λ found r. Ok r
read_from (m ∷ ms) n = if n == m.entry.number then put_found m else read_from ms n

abbrev pub takes_from : {P : Type 0} → List (JsonMember P) → ℕ → Data → Bool
takes_from [] n = λ d. false
takes_from (m ∷ ms) n = if n == m.entry.number then m.takes else takes_from ms n

abbrev pub shape_from : {P : Type 0} → List (JsonMember P) → ℕ → Option Shape
shape_from [] n = None
shape_from (m ∷ ms) n = if n == m.entry.number then Some m.shape else shape_from ms n

abbrev pub encoded_from : {P : Type 0} → List (JsonMember P) → ℕ → BytesForm → P → Option Data
encoded_from [] n = λ form x. None
encoded_from (m ∷ ms) n = if n == m.entry.number then encoded m else encoded_from ms n

abbrev pub either : Bool → Type 0 → Type 0 → Type 0
either true A B = A
either false A B = B

abbrev pub BackFrom : {P : Type 0} → List (JsonMember P) → ℕ → BytesForm → P → Type 0
BackFrom [] n form x = Unit {0}
BackFrom (m ∷ ms) n form x = either (n == m.entry.number) (IsBack m form x) (BackFrom ms n form x)

-- the record with the member with this number, which was found; the same record, if no member has
-- the number
abbrev pub read_row : {P : Type 0} → PlainTable P → ℕ → Member → P → Result P Fault
read_row t = read_from t.members

-- whether decoding a value as that member may take memory
abbrev pub takes_row : {P : Type 0} → PlainTable P → ℕ → Data → Bool
takes_row t = takes_from t.members

-- what that member is decoded from
abbrev pub shape_row : {P : Type 0} → PlainTable P → ℕ → Option Shape
shape_row t = shape_from t.members

-- what that member is encoded as
abbrev pub encoded_row : {P : Type 0} → PlainTable P → ℕ → BytesForm → P → Option Data
encoded_row t = encoded_from t.members

-- what is known of that member when it was encoded
abbrev pub RowIsBack : {P : Type 0} → PlainTable P → ℕ → BytesForm → P → Type 0
RowIsBack t = BackFrom t.members

-- ---- kinds of members, by number, name, how the value is coded, which values are accepted, and where it is taken from
-- and put

-- Which values are accepted, and what in the others is to blame.
pub record Accepted (s : Shape) {A : Type 0} (read : Member → Result A Fault) : Type 0 where
  pub accepts : Data → Bool
  pub judges : Judges read accepts
  pub strict : Strict accepts s
  pub sound : Sound s

-- always encoded
abbrev always : {M P : Type 0} (n : ℕ) (name : List ℕ) (c : Coded M) (s : Shape)
    (read : Member → Result M Fault) → Accepted s read
    → ((x : M) (d : Data) → ReadsBack c.kind x d → read (under name (Some d)) ≡ Ok x) → (P → M)
    → (M → P → P) → JsonMember P
always {M} n name c s read a back get set = record {
  Value = M;
  entry = record { number = n; name = name; other = None };
  takes = c.takes;
  accepts = a.accepts;
  shape = s;
  read = read;
  get = get;
  set = set;
  json = λ form x. Some (c.json form x);
  Back = λ form x. ReadsBack c.kind x (c.json form x);
  back = λ form x b. back x (c.json form x) b;
  judges = a.judges;
  strict = a.strict;
  sound = a.sound;
}

-- encoded if there is a value
abbrev if_some : {M P : Type 0} (n : ℕ) (name : List ℕ) (c : Coded M) (s : Shape)
    (read : Member → Result (Option M) Fault) → Accepted s read
    → ((json : M → Data) (o : Option M) → ReadsBackIf c.kind json o → read (under name (option_map json o)) ≡ Ok o)
    → (P → Option M) → (Option M → P → P) → JsonMember P
if_some {M} n name c s read a back get set = record {
  Value = Option M;
  entry = record { number = n; name = name; other = None };
  takes = c.takes;
  accepts = a.accepts;
  shape = s;
  read = read;
  get = get;
  set = set;
  json = λ form o. option_map (c.json form) o;
  Back = λ form o. ReadsBackIf c.kind (c.json form) o;
  back = λ form o b. back (c.json form) o b;
  judges = a.judges;
  strict = a.strict;
  sound = a.sound;
}

-- the same member, also decoded under another name
abbrev pub or_as : {P : Type 0} → List ℕ → JsonMember P → JsonMember P
or_as other m = record m { entry = record { number = m.entry.number; name = m.entry.name; other = Some other } }

module _ {M : Type 0} (c : Coded M) where
  -- values that the kind accepts
  abbrev by_kind : {A : Type 0} (read : Member → Result A Fault) → Judges read (accepts c.kind) → Accepted c.shape read
  by_kind read judges = record { accepts = accepts c.kind; judges = judges; strict = c.strict; sound = c.sound }

  -- those, and null
  abbrev by_option : (read : Member → Result (Option M) Fault) → Judges read (accepts (optional c.kind))
      → Accepted c.shape read
  by_option read judges = record {
    accepts = accepts (optional c.kind);
    judges = judges;
    strict = option_strict c.kind c.shape c.strict;
    sound = c.sound;
  }

-- all values, of which those that the kind accepts are kept
abbrev by_tolerance : {A B : Type 0} (kind : Kind B) (s : Shape) → Strict (accepts kind) s → Sound s
    → (read : Member → Result A Fault) → Judges read (λ d. true) → Accepted (tolerant_shape kind s) read
by_tolerance kind s strict sound read judges = record {
  accepts = λ d. true;
  judges = judges;
  strict = any_strict (tolerant_shape kind s);
  sound = (strict, sound);
}

module _ {M P : Type 0} (n : ℕ) (name : List ℕ) (c : Coded M) where
  -- a required member
  abbrev pub required_as : (P → M) → (M → P → P) → JsonMember P
  required_as =
      always n name c c.shape (required c.kind) (by_kind c (required c.kind) (law.required_judges c.kind))
      (λ x d b. law.required_back b name)

  -- a required member, with the default if it is rejected
  abbrev pub required_tolerated_as : M → (P → M) → (M → P → P) → JsonMember P
  required_tolerated_as default =
      let read = required_tolerated default c.kind in
      always n name c (tolerant_shape c.kind c.shape) read
      (by_tolerance c.kind c.shape c.strict c.sound read (law.required_tolerated_judges c.kind default))
      (λ x d b. law.required_tolerated_back b name default)

  -- a member with the default if it is absent
  abbrev pub default_as : M → (P → M) → (M → P → P) → JsonMember P
  default_as default =
      let read = or_default default c.kind in
      always n name c c.shape read (by_kind c read (law.or_default_judges c.kind default))
      (λ x d b. law.or_default_back b name default)

  -- a member with the default if it is absent or rejected
  abbrev pub tolerated_as : M → (P → M) → (M → P → P) → JsonMember P
  tolerated_as default =
      let read = tolerated default c.kind in
      always n name c (tolerant_shape c.kind c.shape) read
      (by_tolerance c.kind c.shape c.strict c.sound read (law.tolerated_judges c.kind default))
      (λ x d b. law.tolerated_back b name default)

  -- `None` if it is absent or null
  abbrev pub optional_as : (P → Option M) → (Option M → P → P) → JsonMember P
  optional_as =
      let read = or_default None (optional c.kind) in
      if_some n name c c.shape read (by_option c read (law.or_default_judges (optional c.kind) None))
      (λ json. law.optional_back c.kind json name)

  -- `None` if it is absent
  abbrev pub present_as : (P → Option M) → (Option M → P → P) → JsonMember P
  present_as =
      if_some n name c c.shape (if_present c.kind) (by_kind c (if_present c.kind) (law.present_judges c.kind))
      (λ json. law.present_back c.kind json name)

  -- `None` if it is absent, null or rejected
  abbrev pub tolerated_optional_as : (P → Option M) → (Option M → P → P) → JsonMember P
  tolerated_optional_as =
      let read = tolerated None (optional c.kind) in
      let strict = option_strict c.kind c.shape c.strict in
      if_some n name c (tolerant_shape (optional c.kind) c.shape) read
      (by_tolerance (optional c.kind) c.shape strict c.sound read (law.tolerated_judges (optional c.kind) None))
      (λ json. law.tolerated_optional_back c.kind json name)

  -- a required array, of which the accepted elements are kept
  abbrev pub required_list_as : (P → List M) → (List M → P → P) → JsonMember P
  required_list_as =
      always n name (list_value c) (accepted_shape c.kind c.shape) (required (accepted c.kind))
      (record {
        accepts = accepts (accepted c.kind);
        judges = law.required_judges (accepted c.kind);
        strict = accepted_strict c.kind c.shape;
        sound = (c.strict, c.sound);
      })
      (λ x d b. law.required_list_back c.kind x d b name)

  -- an array of which the accepted elements are kept; `None` if it is absent or no array
  abbrev pub accepted_as : (P → Option (List M)) → (Option (List M) → P → P) → JsonMember P
  accepted_as =
      let s = accepted_shape c.kind c.shape in
      if_some n name (list_value c) (tolerant_shape (accepted c.kind) s) (accepted_list c.kind)
      (by_tolerance (accepted c.kind) s (accepted_strict c.kind c.shape) (c.strict, c.sound) (accepted_list c.kind)
      (law.accepted_list_judges c.kind))
      (λ json. law.accepted_list_back c.kind json name)
