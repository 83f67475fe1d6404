-- Data items that are looked at in place (RFC 8949, section 3).
use Rattle.std.specs.Prelude.{◌≡◌, ℕ, ◌+◌, List, ◌++◌, length, drop}
use Rattle.passkey_cbor.specs.Item.{Item}
use Rattle.passkey_cbor.specs.HeadEncoding.{IsEncodingOfHead}
use Rattle.passkey_cbor.specs.Inside.{Inside}
use Rattle.passkey_cbor.specs.EncodedAt.{Lies, IsEncodedAt}
use Rattle.passkey_cbor.specs.CursorState.{CursorState}
use Rattle.passkey_view.specs.declared.item_view.ItemView.{ItemView}

-- The data item is encoded from the offset to the view's end: the view's head, and after it, from the view's
-- content on, the rest.
pub record IsViewOf (x : Item) (bytes : List ℕ) (offset : ℕ) (v : ItemView) : Type 0 where
  pub from_is : v.from ≡ offset
  pub whole : IsEncodedAt x bytes offset v.end
  pub headed : Lies (IsEncodingOfHead v.head) bytes offset v.content
  pub rest : Lies (Inside v.head x) bytes v.content v.end

abbrev pub HasItemAt : List ℕ → ℕ → ItemView → Type 0
HasItemAt bytes offset v = (x : Item) × IsViewOf x bytes offset v

-- No well-formed data item of at most 256 levels is encoded at the offset.
abbrev pub HasNoItemAt : List ℕ → ℕ → Type 0
HasNoItemAt bytes offset = (x : Item) (to : ℕ) → IsEncodedAt x bytes offset to → ⊥

-- the same view in bytes that have this many more in front
abbrev pub moved : ℕ → ItemView → ItemView
moved n v = record { head = v.head; from = v.from + n; content = v.content + n; end = v.end + n }

-- The cursor is after the item's head.
pub record IsOpened (old new : CursorState) (v : ItemView) : Type 0 where
  pub place : new.place ≡ v.content
  pub bytes : new.bytes ≡ old.bytes
