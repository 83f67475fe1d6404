-- The elements of JSON arrays and the members of objects, and what is read of one after the other.
use Rattle.std.specs.Prelude.{ℕ, suc, Bool, true, false, List, [], ◌∷◌, ◌++◌, Option, Some, None, is_some, Ok}
use Rattle.std.specs.Borrow.{Bor}
use Rattle.json.specs.Json.{Json}
use Rattle.json.specs.Json as json
use Rattle.json.specs.Value.{value_view}
use Rattle.json.specs.declared.value.Value.{Value}
use Rattle.passkey_cbor_text.specs.values.JsonItem.{escape_in}
use Rattle.passkey_cbor_text.specs.values.NoItem.{Read, at, then_with}

-- What was read before, and what is read of these elements or members, of which the first has this index. What is read of one
-- may depend on what was read before.
abbrev pub read_each : {A B : Type 0} → (List B → A → Read B) → List B → ℕ → List A → Read (List B)
read_each of before n [] = Ok before
read_each of before n (x ∷ xs) = then_with (λ y. read_each of (before ++ y ∷ []) (suc n) xs) (at n (of before x))

-- What becomes of what was there before by one of these after the other, of which the first has this index.
abbrev pub read_all : {A B : Type 0} → (B → A → Read B) → B → ℕ → List A → Read B
read_all of before n [] = Ok before
read_all of before n (x ∷ xs) = then_with (λ after. read_all of after (suc n) xs) (at n (of before x))

-- of the parts, if there are any
abbrev pub of_parts : {A B : Type 0} → Option A → (A → Read B) → Read B → Read B
of_parts (Some parts) of other = of parts
of_parts None of other = other

abbrev pub items_in : json.Items → List Json
items_in json.no_items = []
items_in (json.item j js) = j ∷ items_in js

abbrev pub elements_of : Json → Option (List Json)
elements_of (json.array js) = Some (items_in js)
elements_of _ = None

abbrev pub Named : Type 0
Named = List ℕ × Json

-- a member of the code's object
abbrev pub named_in : {A : Type 0} → Bor (List ℕ) × Value A → Named
named_in m = (m.0.now, value_view m.1)

abbrev pub members_in : json.Members → List Named
members_in json.no_members = []
members_in (json.member k j ms) = (let m : Named = (k, j) in m) ∷ members_in ms

abbrev pub unless : {A : Type 0} → Bool → A → Option A
unless true x = None
unless false x = Some x

-- the members of an object that is no escape
abbrev pub members_of : Json → Option (List Named)
members_of (json.object ms) = unless (is_some (escape_in ms)) (members_in ms)
members_of _ = None
