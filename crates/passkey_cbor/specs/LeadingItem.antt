-- The leading data item of a byte list.
use Rattle.std.specs.Prelude.{ℕ, ◌≤◌, List, length, take}
use Rattle.passkey_cbor.specs.Item.{Item}
use Rattle.passkey_cbor.specs.Depth.{depth}
use Rattle.passkey_cbor.specs.Encoding.{IsEncoding}

-- the limit on the nesting levels of arrays, maps and tags
abbrev pub max_depth : ℕ
max_depth = 256

-- The first `len` bytes encode the data item, which has at most 256 levels.
pub record IsLeadingItem (bytes : List ℕ) (x : Item) (len : ℕ) : Type 0 where
  pub within : len ≤ length bytes
  pub encoded : IsEncoding x (take len bytes)
  pub shallow : depth x ≤ max_depth

-- The bytes have no leading data item of at most 256 levels.
abbrev pub HasNoLeadingItem : List ℕ → Type 0
HasNoLeadingItem bytes = (x : Item) (len : ℕ) → IsLeadingItem bytes x len → ⊥
