-- Members with the places that they are encoded at: one table for decoding and for encoding.
use Rattle.passkey_kinds.specs.Base.{Item, text_string, IfPresent}
use Rattle.std.specs.Prelude.{◌≡◌, ℕ, ◌<◌, ◌^◌, Some, List, length, Bool, false, [], ◌∷◌, Option}
use Rattle.passkey_kinds.specs.Kind.{Kind, Typed}
use Rattle.passkey_kinds.specs.Record.{Member, Fields, required, default, default_or, record_kind}
use Rattle.passkey_kinds.specs.Tree.{Place, number_tree, always, where_some, record_tree}
use Rattle.passkey_kinds.specs.Typed.{optional, tolerated}
use Rattle.std.specs.List.{All}

-- ---- an encoded value can be decoded again

-- Each value that fits is encoded as a data item that the kind decodes to the value's normal form.
pub record IsReadBack {A M : Type 0} (kind : Kind M) (tree : A → Item) (Fits : A → Type 0) (normal : A → M) : Type 0
  where
    pub back : (x : A) → Fits x → kind (tree x) ≡ Some (normal x)

-- every value fits
abbrev pub Any : {A : Type 0} → A → Type 0
Any x = Unit {0}

abbrev pub IsByte : ℕ → Type 0
IsByte n = n < 2 ^ 8

-- exactly this many bytes
abbrev pub AreBytes : ℕ → List ℕ → Type 0
AreBytes n bytes = (length bytes ≡ n) × All IsByte bytes

-- ---- members with the places that they are encoded at: one table for decoding and for encoding

-- A member, its place, and what holds of its value in every record.
pub record Placed (P : Type 0) : Type 1 where
  pub member : Member P
  pub place : P → Place
  pub Fits : P → Type 0

abbrev pub placed : {P : Type 0} → Member P → (P → Place) → Placed P
placed member place = record { member = member; place = place; Fits = λ r. Unit {0} }

abbrev pub placed_if : {P : Type 0} → (P → Type 0) → Member P → (P → Place) → Placed P
placed_if Fits member place = record { member = member; place = place; Fits = Fits }

abbrev pub members_of : {P : Type 0} → List (Placed P) → List (Member P)
members_of [] = []
members_of (m ∷ ms) = m.member ∷ members_of ms

abbrev pub places_of : {P : Type 0} → List (Placed P) → P → List Place
places_of [] r = []
places_of (m ∷ ms) r = m.place r ∷ places_of ms r

abbrev pub fields_with : {P : Type 0} → Bool → P → List (Placed P) → Fields P
fields_with is_numbered blank ms = record { is_numbered = is_numbered; blank = blank; rows = members_of ms }

abbrev pub EachFits : {P : Type 0} → List (Placed P) → P → Type 0
EachFits [] r = Unit {0}
EachFits (m ∷ ms) r = m.Fits r × EachFits ms r

-- ---- records whose members have names alone, and which keep no data item

-- What the record holds before a member is decoded, and its members in the order in which they are
-- encoded.
pub record PlainTable (P : Type 0) : Type 1 where
  pub blank : P
  pub members : List (Placed P)

abbrev pub fields_of : {P : Type 0} → PlainTable P → Fields P
fields_of t = fields_with false t.blank t.members

abbrev pub plain_kind : {P : Type 0} → PlainTable P → Kind P
plain_kind t = record_kind (fields_of t)

abbrev pub plain_tree : {P : Type 0} → PlainTable P → P → Item
plain_tree t r = record_tree (places_of t.members r)

-- How a value is decoded, how it is encoded, and what holds of an encoded one.
pub record Coded (M : Type 0) : Type 1 where
  pub typed : Typed M
  pub tree : M → Item
  pub Fits : M → Type 0

-- ---- members by their keys; those of the second and third form have a default

-- required
abbrev pub required_under : {M P : Type 0} → Item → ℕ → List ℕ → Coded M → (P → M) → (M → P → P) → Placed P
required_under key n name c get set =
    placed_if (λ r. c.Fits (get r)) (required n name c.typed set) (λ r. always key c.tree (get r))

-- always encoded
abbrev pub default_under : {M P : Type 0} → Item → ℕ → List ℕ → Coded M → (P → M) → (M → P → P) → Placed P
default_under key n name c get set =
    placed_if (λ r. c.Fits (get r)) (default n name c.typed set) (λ r. always key c.tree (get r))

-- encoded if it is present, and decoded by a kind of its own
abbrev pub present_under : {M P : Type 0} → Typed (Option M) → Item → ℕ → List ℕ → Coded M → (P → Option M)
    → (Option M → P → P) → Placed P
present_under kind key n name c get set =
    placed_if (λ r. IfPresent c.Fits (get r)) (default n name kind set) (λ r. where_some key c.tree (get r))

-- an optional member that also has another name, under which it is never encoded
abbrev pub optional_under : {M P : Type 0} → Item → ℕ → List ℕ → List ℕ → Coded M → (P → Option M)
    → (Option M → P → P) → Placed P
optional_under key n name other c get set = placed_if (λ r. IfPresent c.Fits (get r))
    (default_or n name other (optional c.typed) set) (λ r. where_some key c.tree (get r))

-- the same under their names; null is decoded as if an optional member were absent, and what a
-- tolerated member refuses as well
abbrev pub required_as : {M P : Type 0} → ℕ → List ℕ → Coded M → (P → M) → (M → P → P) → Placed P
required_as n name = required_under (text_string name) n name

abbrev pub default_as : {M P : Type 0} → ℕ → List ℕ → Coded M → (P → M) → (M → P → P) → Placed P
default_as n name = default_under (text_string name) n name

abbrev pub optional_as : {M P : Type 0} → ℕ → List ℕ → Coded M → (P → Option M) → (Option M → P → P) → Placed P
optional_as n name c = present_under (optional c.typed) (text_string name) n name c

abbrev pub optional_as_or : {M P : Type 0} → ℕ → List ℕ → List ℕ → Coded M → (P → Option M)
    → (Option M → P → P) → Placed P
optional_as_or n name = optional_under (text_string name) n name

abbrev pub tolerated_as : {M P : Type 0} → ℕ → List ℕ → Coded M → (P → Option M) → (Option M → P → P) → Placed P
tolerated_as n name c = present_under (tolerated c.typed) (text_string name) n name c

-- the same under their numbers
abbrev pub required_at : {M P : Type 0} → ℕ → List ℕ → Coded M → (P → M) → (M → P → P) → Placed P
required_at n name = required_under (number_tree n) n name

abbrev pub default_at : {M P : Type 0} → ℕ → List ℕ → Coded M → (P → M) → (M → P → P) → Placed P
default_at n name = default_under (number_tree n) n name

abbrev pub optional_at : {M P : Type 0} → ℕ → List ℕ → Coded M → (P → Option M) → (Option M → P → P) → Placed P
optional_at n name c = present_under (optional c.typed) (number_tree n) n name c

abbrev pub optional_at_or : {M P : Type 0} → ℕ → List ℕ → List ℕ → Coded M → (P → Option M)
    → (Option M → P → P) → Placed P
optional_at_or n name = optional_under (number_tree n) n name

abbrev pub tolerated_at : {M P : Type 0} → ℕ → List ℕ → Coded M → (P → Option M) → (Option M → P → P) → Placed P
tolerated_at n name c = present_under (tolerated c.typed) (number_tree n) n name c
