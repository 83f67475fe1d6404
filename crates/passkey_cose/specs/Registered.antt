-- Values that a registry assigns, and other values: numbers or texts.
use Rattle.std.specs.Prelude.{ℕ, ℤ, List, Bool, false, string_bytes}
use Rattle.std.specs.Ordering.{int_eq}
use Rattle.std.specs.Str.{bytes_eq}
use Rattle.passkey_cbor.specs.Item.{Item, number, text_string}
use Rattle.passkey_cose.specs.declared.registered.Registered.{Registered}
use Rattle.passkey_cose.specs.declared.registered.Registered.TheVariants as registered

pub data Named (T : Type 0) : Type 0 where
  assigned : T → Named T
  other : ℤ → Named T
  text : List ℕ → Named T

abbrev pub named_of : {T : Type 0} → Registered T → Named T
named_of (registered.Assigned a) = assigned a
named_of (registered.Other z) = other z
named_of (registered.Text s) = text (string_bytes s)

abbrev pub IsText : {T : Type 0} → Named T → Type 0
IsText (text s) = Unit {0}
IsText _ = ⊥

-- the data item that the value is written as
abbrev pub named_item : {T : Type 0} → (T → ℤ) → Named T → Item
named_item number_of (assigned a) = number (number_of a)
named_item number_of (other z) = number z
named_item number_of (text s) = text_string s

-- the equality of values, as a test
abbrev pub named_eq : {T : Type 0} → (T → ℤ) → Named T → Named T → Bool
named_eq number_of (assigned a) (assigned b) = int_eq (number_of a) (number_of b)
named_eq number_of (other z) (other w) = int_eq z w
named_eq number_of (text s) (text t) = bytes_eq s t
named_eq number_of x y = false
