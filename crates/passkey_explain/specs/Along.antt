-- Where in the bytes the steps into a data item lead (RFC 8949, section 3).
use Rattle.std.specs.Prelude.{◌≡◌, ℕ, suc, ◌+◌, List, [], ◌∷◌, ◌++◌, length, Option, Some, None, true, false, Bool}
use Rattle.passkey_cbor.specs.EncodedAt.{Lies, IsEncodedAt}
use Rattle.passkey_cbor.specs.HeadEncoding.{IsEncodingOfHead}
use Rattle.passkey_cbor.specs.Item.{Item, array, elements, members}
use Rattle.passkey_cbor.specs.CursorState.{CursorState}
use Rattle.passkey_cbor.specs.declared.head.Head.{Head}
use Rattle.passkey_explain.specs.declared.along.Extent.{Extent}
use Rattle.passkey_explain.specs.Blame.{Step, element, member, value, key}
use Rattle.passkey_cbor.specs.Item as item

-- the keys and the values of a map, in turn
abbrev pub turns : List (Item × Item) → List Item
turns [] = []
turns (m ∷ ms) = m.0 ∷ m.1 ∷ turns ms

-- the data items that an array or a map consists of, in the order in which they are encoded
abbrev pub parts_of : Item → List Item
parts_of (array xs) = elements xs
parts_of (item.map ps) = turns (members ps)
parts_of _ = []

-- which of them a step leads to
abbrev pub part_index : Step → ℕ
part_index (element n) = n
part_index (member n number name) = suc (n + n)
part_index (value n) = suc (n + n)
part_index (key n) = n + n

-- These data items are encoded one after the other, from one offset to the other.
abbrev pub ItemsLie : List Item → List ℕ → ℕ → ℕ → Type 0
ItemsLie [] bytes from to = from ≡ to
ItemsLie (x ∷ xs) bytes from to = (next : ℕ) × (IsEncodedAt x bytes from next × ItemsLie xs bytes next to)

-- From an offset on, the head of an array or a map is encoded, then those of its parts that come before the one
-- that the step leads to, and from `place` on that part.
pub record LeadsTo (s : Step) (i : Item) (bytes : List ℕ) (at place : ℕ) (part : Item) : Type 0 where
  pub head : Head
  pub first : ℕ
  pub headed : Lies (IsEncodingOfHead head) bytes at first
  pub before : List Item
  pub after : List Item
  pub parts : parts_of i ≡ before ++ part ∷ after
  pub count : length before ≡ part_index s
  pub passed : ItemsLie before bytes first place

-- The data item is encoded from an offset on, and what the steps lead to between the two last offsets.
abbrev pub LiesAlong : List Step → Item → List ℕ → ℕ → ℕ → ℕ → Type 0
LiesAlong [] i bytes at from to = (from ≡ at) × IsEncodedAt i bytes from to
LiesAlong (s ∷ ss) i bytes at from to =
    (part : Item) × (place : ℕ) × LeadsTo s i bytes at place part × LiesAlong ss part bytes place from to

-- What the steps lead to from the data item at the beginning of the bytes.
abbrev pub IsLocated : List Step → Item → List ℕ → Option Extent → Type 0
IsLocated path i bytes (Some e) = LiesAlong path i bytes 0 e.offset (e.offset + e.len)
IsLocated path i bytes None = ⊥

-- ---- at a cursor

-- The cursor passed the first n of these data items, and the others follow, up to `to`.
pub record PassedItems (xs : List Item) (n : ℕ) (bytes : List ℕ) (from place to : ℕ) : Type 0 where
  pub before : List Item
  pub after : List Item
  pub whole : xs ≡ before ++ after
  pub count : length before ≡ n
  pub passed : ItemsLie before bytes from place
  pub ahead : ItemsLie after bytes place to

abbrev pub PassesItems : List Item → ℕ → ℕ → CursorState → CursorState → Bool → Type 0
PassesItems xs n to old new true = PassedItems xs n old.bytes old.place new.place to × (new.bytes ≡ old.bytes)
PassesItems xs n to old new false = ⊥

-- The cursor went from the head of a data item to the part that the step leads to.
pub record Entered (s : Step) (i part : Item) (old new : CursorState) : Type 0 where
  pub leads : LeadsTo s i old.bytes old.place new.place part
  pub to : ℕ
  pub there : IsEncodedAt part old.bytes new.place to
  pub same : new.bytes ≡ old.bytes

abbrev pub Enters : Step → Item → Item → CursorState → CursorState → Bool → Type 0
Enters s i part old new true = Entered s i part old new
Enters s i part old new false = ⊥
