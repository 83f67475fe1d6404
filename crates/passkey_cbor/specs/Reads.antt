-- The result of decoding the leading data item.
use Rattle.std.specs.Prelude.{ℕ, List, Result, Ok, Err}
use Rattle.passkey_cbor.specs.Item.{Item}
use Rattle.passkey_cbor.specs.LeadingItem.{IsLeadingItem, HasNoLeadingItem}
use Rattle.passkey_cbor.specs.Grows.{Grows}
use Rattle.passkey_cbor.specs.View.{item_of}
use Rattle.passkey_cbor.specs.declared.value.Value.{Value}
use Rattle.passkey_cbor.specs.declared.error.CborError.{CborError}
use Rattle.passkey_cbor.specs.declared.error.CborError.TheVariants as error

-- the leading data item takes memory
pub record HasGrowingLeadingItem (bytes : List ℕ) : Type 0 where
  pub item : Item
  pub len : ℕ
  pub front : IsLeadingItem bytes item len
  pub grows : Grows item

-- The leading data item and its length; or that there is none; or out of memory, which can happen only if the
-- leading data item takes memory.
abbrev pub ReadsLeadingItem : List ℕ → Result (Value × ℕ) CborError → Type 0
ReadsLeadingItem bytes (Ok r) = IsLeadingItem bytes (item_of r.0) r.1
ReadsLeadingItem bytes (Err error.DecodeFailed) = HasNoLeadingItem bytes
ReadsLeadingItem bytes (Err error.OutOfMemory) = HasGrowingLeadingItem bytes
ReadsLeadingItem bytes (Err error.OutOfRangeIntegerValue) = ⊥
