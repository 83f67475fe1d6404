-- The equality of data items, as a test.
use Rattle.std.specs.Prelude.{◌==◌, ◌&&◌, Bool, true, false}
use Rattle.std.specs.Ordering.{int_eq}
use Rattle.std.specs.Str.{bytes_eq}
use Rattle.passkey_cbor.specs.FloatParts.{FloatParts}
use Rattle.passkey_cbor.specs.Item.{Item, number, byte_string, text_string, array, map, tagged, boolean, null, simple, float, Items, no_items, item, Pairs, no_pairs, pair}

abbrev pub boolean_eq : Bool → Bool → Bool
boolean_eq true b = b
boolean_eq false true = false
boolean_eq false false = true

-- the same bits in the same width
abbrev pub float_eq : FloatParts → FloatParts → Bool
float_eq f g = f.width == g.width && f.bits == g.bits

-- the same kind, with equal parts in the same order
abbrev mutual
  pub item_eq : Item → Item → Bool
  item_eq (number z) (number w) = int_eq z w
  item_eq (byte_string s) (byte_string t) = bytes_eq s t
  item_eq (text_string s) (text_string t) = bytes_eq s t
  item_eq (array xs) (array ys) = items_eq xs ys
  item_eq (map ps) (map qs) = pairs_eq ps qs
  item_eq (tagged t x) (tagged u y) = t == u && item_eq x y
  item_eq (boolean b) (boolean c) = boolean_eq b c
  item_eq null null = true
  item_eq (simple n) (simple m) = n == m
  item_eq (float f) (float g) = float_eq f g
  item_eq x y = false

  pub items_eq : Items → Items → Bool
  items_eq no_items no_items = true
  items_eq (item x xs) (item y ys) = item_eq x y && items_eq xs ys
  items_eq xs ys = false

  pub pairs_eq : Pairs → Pairs → Bool
  pairs_eq no_pairs no_pairs = true
  pairs_eq (pair k v ps) (pair l w qs) = (item_eq k l && item_eq v w) && pairs_eq ps qs
  pairs_eq ps qs = false
