-- The leading data item of a byte list, as a function.
use Rattle.std.specs.Prelude.{◌≡◌, ℕ, List, drop, Option, Some, None}
use Rattle.passkey_cbor.specs.LeadingItem.{max_depth, IsLeadingItem, HasNoLeadingItem}
use Rattle.passkey_cbor.specs.Item.{Item}
use Rattle.passkey_cbor.specs.Reading.{start, item_within}

-- the leading data item, and the bytes after it
unfoldable pub leading_item_at : List ℕ → Option (Item × List ℕ)
leading_item_at bytes = start (item_within max_depth) bytes

-- The item is the leading data item of the bytes, and the rest is what comes after it.
pub record IsFollowedBy (bytes : List ℕ) (x : Item) (rest : List ℕ) : Type 0 where
  pub len : ℕ
  pub front : IsLeadingItem bytes x len
  pub following : rest ≡ drop len bytes

-- This is the leading data item, followed by this rest; or, for `None`, there is no leading data item.
abbrev pub IsLeadingItemOf : List ℕ → Option (Item × List ℕ) → Type 0
IsLeadingItemOf bytes (Some r) = IsFollowedBy bytes r.0 r.1
IsLeadingItemOf bytes None = HasNoLeadingItem bytes
