-- Maps from texts, decoded from objects and encoded as objects.
use Rattle.std.specs.FinMap as fin
use Rattle.std.specs.Option.{option_and_then}
use Rattle.std.specs.Prelude.{ℕ, List, [], ◌∷◌, Option, Some, None}
use Rattle.passkey_bytes.specs.Map.{ByteMap}
use Rattle.passkey_json.specs.Kind.{Kind}
use Rattle.serde_json.specs.Data.{Data, object, Members, no_members, member}

-- the map with the members' values added, if all of them are accepted
abbrev pub with_members : {A : Type 0} → Kind A → ByteMap A → Members → Option (ByteMap A)
with_members kind m no_members = Some m
with_members kind m (member name d ms) = option_and_then (λ x. with_members kind (fin.insert m name x) ms) (kind d)

-- the map of an object's members, by their names
abbrev pub map_from_texts : {A : Type 0} → Kind A → Kind (ByteMap A)
map_from_texts kind (object ms) = with_members kind fin.empty ms
map_from_texts kind _ = None

-- the members that these entries are encoded as
abbrev pub members_json : {A : Type 0} → (A → Data) → List (List ℕ × A) → Members
members_json json [] = no_members
members_json json (e ∷ es) = member e.0 (json e.1) (members_json json es)

-- the object of a map's entries, in the order of their names
abbrev pub map_json : {A : Type 0} → (A → Data) → ByteMap A → Data
map_json json m = object (members_json json (fin.entries m))
