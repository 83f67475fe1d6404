-- The data item that each kind of value represents.
use Rattle.std.proofs.Common.{◌≡◌, ℕ, ℤ, rules, Vec, Global, Box, String, string_bytes}
use Rattle.passkey_cbor.specs.FloatParts.{FloatParts}
use Rattle.passkey_cbor.specs.Item as item
use Rattle.passkey_cbor.specs.View.{item_of, items_view, pairs_view}
use Rattle.passkey_cbor.specs.declared.value.Value.{Value, Integer, Float, Bytes, Text, Tag, Array, Map, the_lemmas}

pub item_of-Integer : (z : ℤ) → item_of (Integer z) ≡ item.number z
item_of-Integer z = search (rules, the_lemmas)

pub item_of-Bytes : (v : Vec ℕ Global) → item_of (Bytes v) ≡ item.byte_string v.items
item_of-Bytes v = search (rules, the_lemmas)

pub item_of-Float : (f : FloatParts) → item_of (Float f) ≡ item.float f
item_of-Float f = search (rules, the_lemmas)

pub item_of-Text : (s : String Global) → item_of (Text s) ≡ item.text_string (string_bytes s)
item_of-Text s = search (rules, the_lemmas)

pub item_of-Tag : (n : ℕ) (b : Box Value Global) → item_of (Tag n b) ≡ item.tagged n (item_of b.value)
item_of-Tag n b = search (rules, the_lemmas)

pub item_of-Array : (v : Vec Value Global) → item_of (Array v) ≡ item.array (items_view v.items)
item_of-Array v = search (rules, the_lemmas)

pub item_of-Map : (v : Vec (Value × Value) Global) → item_of (Map v) ≡ item.map (pairs_view v.items)
item_of-Map v = search (rules, the_lemmas)
