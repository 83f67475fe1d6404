-- The number of data items in a data item, itself included.
use Rattle.std.specs.Prelude.{ℕ, suc, ◌+◌}
use Rattle.passkey_cbor.specs.Item.{Item, number, byte_string, text_string, array, map, tagged, boolean, null, simple, float, Items, no_items, item, Pairs, no_pairs, pair}

abbrev mutual
  pub nodes : Item → ℕ
  nodes (number z) = 1
  nodes (byte_string s) = 1
  nodes (text_string s) = 1
  nodes (array xs) = suc (items_nodes xs)
  nodes (map ps) = suc (pairs_nodes ps)
  nodes (tagged t x) = suc (nodes x)
  nodes (boolean b) = 1
  nodes null = 1
  nodes (simple n) = 1
  nodes (float f) = 1

  pub items_nodes : Items → ℕ
  items_nodes no_items = 0
  items_nodes (item x xs) = nodes x + items_nodes xs

  pub pairs_nodes : Pairs → ℕ
  pairs_nodes no_pairs = 0
  pairs_nodes (pair k v ps) = (nodes k + nodes v) + pairs_nodes ps
