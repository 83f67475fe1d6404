-- Edits of data items: a change at a place.
use Rattle.passkey_cbor.specs.Item as item
use Rattle.passkey_cbor.specs.Item.{Item, members, null, pairs_of, text_string}
use Rattle.passkey_cbor.specs.Same.{item_eq}
use Rattle.passkey_kinds.specs.Record.{Members}
use Rattle.passkey_repair.specs.declared.messages.deviation.Deviation.{Deviation}
use Rattle.std.specs.List.{position, remove}
use Rattle.std.specs.Option.{option_and_then}
use Rattle.std.specs.Prelude.{Bool, List, None, Option, Some, [], get_or, if◌then◌else◌, is_some, not, option_map, set, unwrap_or, ℕ, ◌&&◌, ◌++◌, ◌∷◌, ◌≡◌}

-- What becomes of a data item: the first one becomes the second; a map gets a member with the first name and this value,
-- if it lacks it and has a member with the second name; or a map loses the member with this name and this value.
pub data Change : Type 0 where
  replace : Item → Item → Change
  add : List ℕ → List ℕ → Item → Change
  leave_out : List ℕ → Item → Change

-- A change at a place: in the value under the first key of the path, in that value under the second key, and so on.
pub record Edit : Type 0 where
  pub deviation : Deviation
  pub path : List Item
  pub change : Change

-- ---- members by their keys

-- the index of the first member with this key
abbrev pub place_of : Item → Members → Option ℕ
place_of key ms = position (λ (m : Item × Item). item_eq m.0 key) ms

abbrev pub has : List ℕ → Members → Bool
has name ms = is_some (place_of (text_string name) ms)

abbrev pub no_member : Item × Item
no_member = (null, null)

-- the value of member n
abbrev pub value_at : Members → ℕ → Item
value_at ms n = (get_or ms n no_member).1

-- the same members, with this value in member n
abbrev pub with_value : Members → ℕ → Item → Members
with_value ms n i = set ms n ((get_or ms n no_member).0, i)

abbrev pub map_of : Members → Item
map_of ms = item.map (pairs_of ms)

-- ---- what an edit makes of an item; `None` if it doesn't fit

abbrev pub added : List ℕ → List ℕ → Item → Members → Option Members
added name beside i ms = if has beside ms && not (has name ms) then Some (ms ++ (text_string name, i) ∷ []) else None

abbrev pub left_out : List ℕ → Item → Members → Option Members
left_out name i ms = option_and_then (λ n. if item_eq (value_at ms n) i then Some (remove ms n) else None)
    (place_of (text_string name) ms)

abbrev pub changed : Change → Item → Option Item
changed (replace from to) i = if item_eq i from then Some to else None
changed (add name beside i) (item.map ps) = option_map map_of (added name beside i (members ps))
changed (add name beside i) _ = None
changed (leave_out name i) (item.map ps) = option_map map_of (left_out name i (members ps))
changed (leave_out name i) _ = None

-- the members, with the value of the first one under this key edited
abbrev pub with_edited : (Item → Option Item) → Item → Members → Option Members
with_edited edit key ms = option_and_then (λ n. option_map (with_value ms n) (edit (value_at ms n))) (place_of key ms)

abbrev pub edited_at : List Item → Change → Item → Option Item
edited_at [] change i = changed change i
edited_at (key ∷ path) change (item.map ps) = option_map map_of (with_edited (edited_at path change) key (members ps))
edited_at (key ∷ path) change _ = None

abbrev pub edited : Edit → Item → Option Item
edited e i = edited_at e.path e.change i

-- An edit that makes this of the old item, if it fits, leaves the new one and returns whether it fits.
pub record Edits (wanted : Option Item) (old new : Item) (made : Bool) : Type 0 where
  pub fits : made ≡ is_some wanted
  pub leaves : new ≡ unwrap_or wanted old

-- the same for the members of a map
abbrev pub EditsMembers : Option Members → Members → Members → Bool → Type 0
EditsMembers wanted old new made = Edits (option_map map_of wanted) (map_of old) (map_of new) made
