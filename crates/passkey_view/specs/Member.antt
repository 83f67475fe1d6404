-- The members of a map, looked at in place (RFC 8949, section 3.1, major type 5).
use Rattle.std.specs.Prelude.{◌≡◌, ◌↔◌, ℕ, ℤ, pos, negsuc, List, [], ◌∷◌, ◌++◌, Bool, Option, Some, None, IsTrue, MatchOption}
use Rattle.std.specs.List.{All}
use Rattle.passkey_cbor.specs.Item.{Item, map, pairs_of}
use Rattle.passkey_cbor.specs.Languages.{Each}
use Rattle.passkey_cbor.specs.LeadingItem.{max_depth}
use Rattle.passkey_cbor.specs.Inside.{PairWithin}
use Rattle.passkey_cbor.specs.EncodedAt.{Lies, IsEncodedAt}
use Rattle.passkey_cbor.specs.CursorState.{CursorState}
use Rattle.passkey_cbor.specs.declared.head.Head.{Head}
use Rattle.passkey_cbor.specs.declared.head.Head.TheVariants as head
use Rattle.passkey_view.specs.declared.item_view.ItemView.{ItemView}
use Rattle.passkey_view.specs.ItemView.{IsViewOf}

abbrev pub Members : Type 0
Members = List (Item × Item)

-- ---- keys

-- It is the head of this integer.
abbrev pub IsHeadOfNumber : ℤ → Option Head → Type 0
IsHeadOfNumber z (Some (head.Unsigned n)) = pos n ≡ z
IsHeadOfNumber z (Some (head.Negative n)) = negsuc n ≡ z
IsHeadOfNumber z _ = ⊥

-- The cursor passed the data item, and the result says whether it is the key.
pub record PassedKey (key x : Item) (to : ℕ) (old new : CursorState) (found : Bool) : Type 0 where
  pub is : IsTrue found ↔ (x ≡ key)
  pub place : new.place ≡ to
  pub bytes : new.bytes ≡ old.bytes

abbrev pub PassesKey : Item → Item → ℕ → CursorState → CursorState → Option Bool → Type 0
PassesKey key x to old new (Some found) = PassedKey key x to old new found
PassesKey key x to old new None = ⊥

-- ---- members

-- None of these members has the key.
abbrev pub HasNoKey : Item → Members → Type 0
HasNoKey key ms = All (λ (m : Item × Item). m.0 ≡ key → ⊥) ms

-- Of these members, which are encoded from the offset on, the first that has the key has the value of the view.
pub record IsFirstAmong (key : Item) (ms : Members) (bytes : List ℕ) (from : ℕ) (v : ItemView) : Type 0 where
  pub before : Members
  pub following : Members
  pub value : Item
  pub key_at : ℕ
  pub whole : ms ≡ before ++ (key, value) ∷ following
  pub first : HasNoKey key before
  pub earlier : Lies (Each (PairWithin max_depth) before) bytes from key_at
  pub here : IsEncodedAt key bytes key_at v.from
  pub value_is : IsViewOf value bytes v.from v

-- The first of these members that has the key is found, if any has it.
abbrev pub FindsAmong : Item → Members → List ℕ → ℕ → Option ItemView → Type 0
FindsAmong key ms bytes from found = MatchOption found (HasNoKey key ms) (IsFirstAmong key ms bytes from)

-- The data item at the offset is a map, and the view is that of the value of its first member with the key.
pub record HasMember (key : Item) (bytes : List ℕ) (offset : ℕ) (v : ItemView) : Type 0 where
  pub members : Members
  pub container : ItemView
  pub is_map : IsViewOf (map (pairs_of members)) bytes offset container
  pub is_first : IsFirstAmong key members bytes container.content v

-- No map with such a member is encoded at the offset.
abbrev pub HasNoMember : Item → List ℕ → ℕ → Type 0
HasNoMember key bytes offset =
    (ms : Members) (to : ℕ) → IsEncodedAt (map (pairs_of ms)) bytes offset to → HasNoKey key ms
