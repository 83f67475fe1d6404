-- Null at a cursor. Undefined is decoded as null, too (RFC 8949, section 3.3).
use Rattle.std.specs.Prelude.{◌≡◌, ℕ, List, Bool, true, false}
use Rattle.passkey_cbor.specs.Item.{Item, null}
use Rattle.passkey_cbor.specs.LeadingItem.{IsLeadingItem}
use Rattle.passkey_cbor.specs.CursorState.{CursorState, ahead, raised, LooksOnce}
use Rattle.passkey_cbor.specs.Skipped.{PassesLeadingItem}
use Rattle.passkey_cbor.specs.EncodedAt.{Passes}

-- whether null is the leading data item
abbrev pub BeginsNull : List ℕ → Bool → Type 0
BeginsNull bytes true = IsLeadingItem bytes null 1
BeginsNull bytes false = (len : ℕ) → IsLeadingItem bytes null len → ⊥

-- The leading data item is null. The cursor passed its one byte, and counted one head.
pub record PassesLeadingNull (old new : CursorState) : Type 0 where
  pub front : IsLeadingItem (ahead old) null 1
  pub passed : PassesLeadingItem old new
  pub heads : new.heads ≡ raised old.heads 1

-- If the leading data item isn't null, the cursor doesn't move, and counts one head.
abbrev pub PassesNull : CursorState → CursorState → Bool → Type 0
PassesNull old new true = PassesLeadingNull old new
PassesNull old new false = BeginsNull (ahead old) false × LooksOnce old new

-- The same by the data item that is encoded at the cursor.
abbrev pub PassesNullAt : Item → ℕ → CursorState → CursorState → Bool → Type 0
PassesNullAt x to old new true = (x ≡ null) × Passes to old new true
PassesNullAt x to old new false = (x ≡ null → ⊥) × LooksOnce old new
