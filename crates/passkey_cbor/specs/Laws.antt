-- Laws of the definitions.
use Rattle.std.specs.Prelude.{◌≡◌, ℕ, ◌<◌, ◌≤◌, List, ◌++◌, length, take, drop, Some}
use Rattle.passkey_cbor.specs.Item.{Item}
use Rattle.passkey_cbor.specs.Encoding.{IsEncoding}
use Rattle.passkey_cbor.specs.Bytes.{IsBytes}
use Rattle.passkey_cbor.specs.Depth.{depth}
use Rattle.passkey_cbor.specs.HeadCount.{AreHeads, heads_of}
use Rattle.passkey_cbor.specs.LeadingItem.{max_depth, IsLeadingItem, HasNoLeadingItem}
use Rattle.passkey_cbor.specs.LeadingItemAt.{leading_item_at, IsLeadingItemOf}
use Rattle.passkey_cbor.specs.Written.{written}
use Rattle.passkey_cbor.specs.Writable.{IsWritable}

-- A byte list has at most one leading data item, with only one length.
abbrev pub AtMostOneLeadingItem : Type 0
AtMostOneLeadingItem = (bytes : List ℕ) (x y : Item) (j k : ℕ) → IsLeadingItem bytes x j → IsLeadingItem bytes y k
    → (x ≡ y) × (j ≡ k)

-- If the leading data item has k bytes, then no prefix of fewer than k bytes has a leading data item.
abbrev pub NoShorterLeadingItem : Type 0
NoShorterLeadingItem = (bytes : List ℕ) (x : Item) (k j : ℕ) → IsLeadingItem bytes x k → j < k
    → HasNoLeadingItem (take j bytes)

-- If there is a leading data item, `leading_item_at` returns it and the bytes after it.
abbrev pub LeadingItemIsFound : Type 0
LeadingItemIsFound = (bytes : List ℕ) (x : Item) (len : ℕ) → IsLeadingItem bytes x len
    → leading_item_at bytes ≡ Some (x, drop len bytes)

-- What `leading_item_at` returns is the leading data item; if it returns `None`, there is none.
abbrev pub FoundIsLeadingItem : Type 0
FoundIsLeadingItem = (bytes : List ℕ) → IsBytes bytes → IsLeadingItemOf bytes (leading_item_at bytes)

-- What `leading_item_at` returns has at most 256 levels, even if some numbers in the list aren't bytes.
abbrev pub GivenIsShallow : Type 0
GivenIsShallow = (bytes : List ℕ) (x : Item) (rest : List ℕ) → leading_item_at bytes ≡ Some (x, rest)
    → depth x ≤ max_depth

-- The written bytes are an encoding of the data item.
abbrev pub WrittenIsEncoding : Type 0
WrittenIsEncoding = (x : Item) → IsWritable x → IsEncoding x (written x)

-- Bytes that begin with the written encoding of a data item of at most 256 levels have it as their leading data
-- item.
abbrev pub WrittenIsLeadingItem : Type 0
WrittenIsLeadingItem = (x : Item) (rest : List ℕ) → IsWritable x → depth x ≤ max_depth
    → IsLeadingItem (written x ++ rest) x (length (written x))

-- Bytes are whole heads in one way at most.
abbrev pub WholeHeadsAreCounted : Type 0
WholeHeadsAreCounted = (n : ℕ) (bytes : List ℕ) → AreHeads n bytes → heads_of bytes ≡ n
