-- The length of a data item, and what is written of what was found.
use Rattle.std.proofs.Common.{ℕ, zero, suc, Bool, List, Option, Some, None, arith}
use Rattle.std.specs.Prelude.{MatchOption}
use Rattle.passkey_cbor.specs.Item.{Item}
use Rattle.passkey_cbor.specs.LeadingItem.{IsLeadingItem}
use Rattle.passkey_cbor.proofs.items.EncodedFrom.{front_long}
use Rattle.passkey_view.specs.declared.item_view.ItemView.{ItemView}
use Rattle.passkey_view_c.specs.declared.item.Item.{Item as CItem}
use Rattle.passkey_view_c.specs.Items.{IsItemLength, Fills, Writes, item_of}

-- no data item is empty
pub is_length : (bytes : List ℕ) (x : Item) (len : ℕ) → IsLeadingItem bytes x len → IsItemLength bytes len
is_length bytes x zero f = absurd (omega (arith, front_long x bytes zero f))
is_length bytes x (suc n) f = (x, f)

-- what was found is written
pub writes : (none : Type 0) (some : ItemView → Type 0) (found : Option ItemView) (old new : CItem) (result : Bool)
    → MatchOption found none some → Fills item_of found old new result → Writes none some old new result
writes none some (Some v) old new result m f = rw f.0 (v, (m, f.1))
writes none some None old new result m f = rw f.0 (m, f.1)
