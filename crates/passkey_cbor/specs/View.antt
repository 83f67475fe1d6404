-- The data item that a `Value` represents.
use Rattle.std.specs.Prelude.{List, map, string_bytes}
use Rattle.passkey_cbor.specs.Item as item
use Rattle.passkey_cbor.specs.Item.{Item, Items, Pairs, items_of, pairs_of}
use Rattle.passkey_cbor.specs.declared.value.Value.{Value, fold-Value}
use Rattle.passkey_cbor.specs.declared.value.Value.TheOpen.{Value-F}

-- one level of a value, where each value inside is already replaced by its data item
abbrev pub item_step : Value-F Item → Item
item_step (Value-F.Integer z) = item.number z
item_step (Value-F.Bytes v) = item.byte_string v.items
item_step (Value-F.Float f) = item.float f
item_step (Value-F.Text s) = item.text_string (string_bytes s)
item_step (Value-F.Bool b) = item.boolean b
item_step Value-F.Null = item.null
item_step (Value-F.Simple n) = item.simple n
item_step (Value-F.Tag n b) = item.tagged n b.value
item_step (Value-F.Array v) = item.array (items_of v.items)
item_step (Value-F.Map v) = item.map (pairs_of v.items)

abbrev pub item_of : Value → Item
item_of = fold-Value Item item_step

abbrev pub pair_of : Value × Value → Item × Item
pair_of p = (item_of p.0, item_of p.1)

-- the elements of an array, and the members of a map, from their values
abbrev pub items_view : List Value → Items
items_view vs = items_of (map item_of vs)

abbrev pub pairs_view : List (Value × Value) → Pairs
pairs_view ps = pairs_of (map pair_of ps)
