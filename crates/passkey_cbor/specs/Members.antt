-- The members of a map, one by one (RFC 8949, section 3.1, major type 5).
use Rattle.std.specs.Prelude.{◌≡◌, ℕ, List, [], ◌∷◌, ◌++◌, drop, Option, Some, None}
use Rattle.std.specs.Borrow.{Bor}
use Rattle.passkey_cbor.specs.Item.{Item, map, pairs_of}
use Rattle.passkey_cbor.specs.LeadingItem.{max_depth, IsLeadingItem}
use Rattle.passkey_cbor.specs.Inside.{Within}
use Rattle.passkey_cbor.specs.EncodedAt.{PairsAreEncodedAt}
use Rattle.passkey_cbor.specs.CursorState.{CursorState}

-- The offset in the bytes at which the members that are left begin, and how many of them the map's head counts;
-- `None` for indefinite length.
pub record MembersLeft : Type 0 where
  pub bytes : List ℕ
  pub place : ℕ
  pub left : Option ℕ

-- These members are left, and end at an offset.
abbrev pub AreLeft : List (Item × Item) → ℕ → MembersLeft → Type 0
AreLeft ms to at = PairsAreEncodedAt at.left ms at.bytes at.place to

-- What holds of every `Members`: some members, possibly none, are left.
pub record SomeLeft (at : MembersLeft) : Type 0 where
  pub pairs : List (Item × Item)
  pub to : ℕ
  pub are_left : AreLeft pairs to at

-- ---- `Members::next`

-- The slices encode the first member's key and value; they follow each other in the bytes, from the old offset
-- to the new, and the others are left.
pub record GivesFirst (first : Item × Item) (others : List (Item × Item)) (to : ℕ) (old new : MembersLeft)
    (key value : List ℕ) : Type 0 where
  pub key_encoded : Within max_depth first.0 key
  pub value_encoded : Within max_depth first.1 value
  pub here : drop old.place old.bytes ≡ key ++ (value ++ drop new.place old.bytes)
  pub after : AreLeft others to new
  pub bytes : new.bytes ≡ old.bytes

-- The map's end was reached, and no members are left.
pub record Ended (to : ℕ) (old new : MembersLeft) : Type 0 where
  pub place : new.place ≡ to
  pub after : AreLeft [] to new
  pub bytes : new.bytes ≡ old.bytes

-- The result if these members are left: `None` if there are none, and else the first.
abbrev pub NextMember : List (Item × Item) → ℕ → MembersLeft → Option (Bor (List ℕ) × Bor (List ℕ)) → MembersLeft
    → Type 0
NextMember [] to old None new = Ended to old new
NextMember [] to old (Some m) new = ⊥
NextMember (m ∷ ms) to old None new = ⊥
NextMember (m ∷ ms) to old (Some slices) new = GivesFirst m ms to old new slices.0.now slices.1.now

pub record GivesNext (old : MembersLeft) (result : Option (Bor (List ℕ) × Bor (List ℕ))) (new : MembersLeft) :
    Type 0 where
  pub some : SomeLeft old
  pub next : (ms : List (Item × Item)) (to : ℕ) → AreLeft ms to old → NextMember ms to old result new

-- ---- `members`

-- The leading data item is a map, and all its members are left.
pub record AllLeft (bytes : List ℕ) (at : MembersLeft) : Type 0 where
  pub pairs : List (Item × Item)
  pub len : ℕ
  pub front : IsLeadingItem bytes (map (pairs_of pairs)) len
  pub are_left : AreLeft pairs len at
  pub same : at.bytes ≡ bytes

-- The leading data item isn't a map, or there is none.
abbrev pub HasNoMap : List ℕ → Type 0
HasNoMap bytes = (ms : List (Item × Item)) (len : ℕ) → IsLeadingItem bytes (map (pairs_of ms)) len → ⊥

-- ---- the bytes of one data item

-- The slice encodes the data item and begins at the old offset, and the cursor passed it.
pub record LendsItem (x : Item) (to : ℕ) (old new : CursorState) (slice : List ℕ) : Type 0 where
  pub encoded : Within max_depth x slice
  pub here : drop old.place old.bytes ≡ slice ++ drop to old.bytes
  pub place : new.place ≡ to

abbrev pub LendsSlice : Item → ℕ → CursorState → CursorState → Option (Bor (List ℕ)) → Type 0
LendsSlice x to old new None = ⊥
LendsSlice x to old new (Some slice) = LendsItem x to old new slice.now
