-- The data items that CBOR can encode: integers, lengths and tag numbers of at most 64 bits, and text strings
-- in UTF-8 (RFC 8949, section 3).
use Rattle.std.specs.Prelude.{◌^◌, ◌<◌, length}
use Rattle.std.specs.Str.{IsUtf8}
use Rattle.passkey_cbor.specs.FloatParts.{IsFloat}
use Rattle.passkey_cbor.specs.Ranges.{IsInteger, IsSimple}
use Rattle.passkey_cbor.specs.Item.{Item, number, byte_string, text_string, array, map, tagged, boolean, null, simple, float, Items, no_items, item, Pairs, no_pairs, pair}
use Rattle.passkey_cbor.specs.Encoding.{items_len, pairs_len}

abbrev mutual
  pub IsWritable : Item → Type 0
  IsWritable (number z) = IsInteger z
  IsWritable (byte_string s) = length s < 2 ^ 64
  IsWritable (text_string s) = (length s < 2 ^ 64) × IsUtf8 s
  IsWritable (array xs) = (items_len xs < 2 ^ 64) × AreWritable xs
  IsWritable (map ps) = (pairs_len ps < 2 ^ 64) × ArePairsWritable ps
  IsWritable (tagged t x) = (t < 2 ^ 64) × IsWritable x
  IsWritable (boolean b) = Unit {0}
  IsWritable null = Unit {0}
  IsWritable (simple n) = IsSimple n
  IsWritable (float f) = IsFloat f.width f.bits

  pub AreWritable : Items → Type 0
  AreWritable no_items = Unit {0}
  AreWritable (item x xs) = IsWritable x × AreWritable xs

  pub ArePairsWritable : Pairs → Type 0
  ArePairsWritable no_pairs = Unit {0}
  ArePairsWritable (pair k v ps) = (IsWritable k × IsWritable v) × ArePairsWritable ps
