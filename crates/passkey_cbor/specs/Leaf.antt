-- Data items without others in them.
use Rattle.std.specs.Prelude.{◌≡◌, ℕ, ◌≤◌, List, length, drop, Some}
use Rattle.passkey_cbor.specs.Item.{Item}
use Rattle.passkey_cbor.specs.HeadReading.{head_at}
use Rattle.passkey_cbor.specs.HeadCount.{after_heads}
use Rattle.passkey_cbor.specs.HeadsDecoded.{start_heads, item_heads}
use Rattle.passkey_cbor.specs.Reading.{start, item_within}
use Rattle.passkey_cbor.specs.declared.head.Head.{Head}

-- The first n bytes encode a data item of one head and without others in it, so that its levels don't matter.
pub record IsLeafLen (bytes : List ℕ) (n : ℕ) : Type 0 where
  pub leaf : Item
  pub one : after_heads 1 bytes ≡ Some (drop n bytes)
  pub reads : (levels : ℕ) → start (item_within levels) bytes ≡ Some (leaf, drop n bytes)
  pub heads : (levels : ℕ) → start_heads (item_heads levels) bytes ≡ 1
  pub within : n ≤ length bytes

-- The first k bytes are this head, and the rest follows.
pub record Headed (bytes : List ℕ) (k : ℕ) (h : Head) (rest : List ℕ) : Type 0 where
  pub reads : head_at bytes ≡ Some (h, rest)
  pub parts : drop k bytes ≡ rest
  pub within : k ≤ length bytes
