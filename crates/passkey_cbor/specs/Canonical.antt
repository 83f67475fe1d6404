-- CTAP2's canonical form: shortest heads, definite lengths, each float in its own width, no undefined, no tags,
-- and map keys in ascending order (CTAP 2.1, section 8).
use Rattle.std.specs.Prelude.{◌≡◌, ℕ, ◌≤◌, List, Option, Some, None}
use Rattle.passkey_cbor.specs.Depth.{depth}
use Rattle.passkey_cbor.specs.LeadingItem.{max_depth}
use Rattle.passkey_cbor.specs.Item.{Item, number, byte_string, text_string, array, map, tagged, boolean, null, simple, float, Items, no_items, item, Pairs, no_pairs, pair}
use Rattle.passkey_cbor.specs.Order.{IsBefore}
use Rattle.passkey_cbor.specs.Writable.{IsWritable}
use Rattle.passkey_cbor.specs.Written.{written}

-- the key comes after the previous key; any key may come first
abbrev pub ComesAfter : Option (List ℕ) → List ℕ → Type 0
ComesAfter None key = Unit {0}
ComesAfter (Some before) key = IsBefore before key

-- each key comes after the previous one, so no two are equal
abbrev pub AscendFrom : Option (List ℕ) → Pairs → Type 0
AscendFrom before no_pairs = Unit {0}
AscendFrom before (pair k v ps) = ComesAfter before (written k) × AscendFrom (Some (written k)) ps

abbrev pub Ascend : Pairs → Type 0
Ascend ps = AscendFrom None ps

-- no tags, and the keys of each map ascend
abbrev mutual
  pub IsOrdered : Item → Type 0
  IsOrdered (number z) = Unit {0}
  IsOrdered (byte_string s) = Unit {0}
  IsOrdered (text_string s) = Unit {0}
  IsOrdered (array xs) = AreOrdered xs
  IsOrdered (map ps) = Ascend ps × ArePairsOrdered ps
  IsOrdered (tagged t x) = ⊥
  IsOrdered (boolean b) = Unit {0}
  IsOrdered null = Unit {0}
  IsOrdered (simple n) = Unit {0}
  IsOrdered (float f) = Unit {0}

  pub AreOrdered : Items → Type 0
  AreOrdered no_items = Unit {0}
  AreOrdered (item x xs) = IsOrdered x × AreOrdered xs

  pub ArePairsOrdered : Pairs → Type 0
  ArePairsOrdered no_pairs = Unit {0}
  ArePairsOrdered (pair k v ps) = (IsOrdered k × IsOrdered v) × ArePairsOrdered ps

-- The bytes are the written encoding, and nothing else, of an ordered data item of at most 256 levels.
pub record IsCanonical (bytes : List ℕ) : Type 0 where
  pub item : Item
  pub writable : IsWritable item
  pub shallow : depth item ≤ max_depth
  pub ordered : IsOrdered item
  pub whole : bytes ≡ written item
