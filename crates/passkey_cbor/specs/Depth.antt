-- The number of nesting levels of arrays, maps and tags in a data item (a limit on nesting: RFC 8949, section
-- 10).
use Rattle.std.specs.Prelude.{ℕ, suc, max}
use Rattle.passkey_cbor.specs.Item.{Item, number, byte_string, text_string, array, map, tagged, boolean, null, simple, float, Items, no_items, item, Pairs, no_pairs, pair}

abbrev mutual
  pub depth : Item → ℕ
  depth (number z) = 0
  depth (byte_string s) = 0
  depth (text_string s) = 0
  depth (array xs) = suc (items_depth xs)
  depth (map ps) = suc (pairs_depth ps)
  depth (tagged t x) = suc (depth x)
  depth (boolean b) = 0
  depth null = 0
  depth (simple n) = 0
  depth (float f) = 0

  pub items_depth : Items → ℕ
  items_depth no_items = 0
  items_depth (item x xs) = max (depth x) (items_depth xs)

  pub pairs_depth : Pairs → ℕ
  pairs_depth no_pairs = 0
  pairs_depth (pair k v ps) = max (max (depth k) (depth v)) (pairs_depth ps)
