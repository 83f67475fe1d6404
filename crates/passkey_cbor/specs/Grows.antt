-- The data items that take memory to hold: a tag, a text string (even an empty one), and a byte string, array
-- or map that isn't empty.
use Rattle.std.specs.Prelude.{[], ◌∷◌}
use Rattle.passkey_cbor.specs.Item.{Item, number, byte_string, text_string, array, map, tagged, boolean, null, simple, float, no_items, item, no_pairs, pair}

abbrev pub Grows : Item → Type 0
Grows (number z) = ⊥
Grows (byte_string []) = ⊥
Grows (byte_string (b ∷ bs)) = Unit {0}
Grows (text_string s) = Unit {0}
Grows (array no_items) = ⊥
Grows (array (item x xs)) = Unit {0}
Grows (map no_pairs) = ⊥
Grows (map (pair k v ps)) = Unit {0}
Grows (tagged t x) = Unit {0}
Grows (boolean b) = ⊥
Grows null = ⊥
Grows (simple n) = ⊥
Grows (float f) = ⊥
