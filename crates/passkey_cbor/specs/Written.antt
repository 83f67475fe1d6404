-- The one encoding that is written: shortest heads and definite lengths (RFC 8949, section 4.1), and each float
-- in its own width.
use Rattle.std.specs.Prelude.{ℕ, ◌+◌, ◌*◌, ◌^◌, pos, negsuc, List, [], ◌∷◌, ◌++◌, length, nat_lt, ◌==◌, if◌then◌else◌}
use Rattle.std.specs.Int.{w8, w16, w32, w64, to_be_bytes}
use Rattle.passkey_cbor.specs.FloatParts.{FloatParts}
use Rattle.passkey_cbor.specs.Item.{Item, number, byte_string, text_string, array, map, tagged, boolean, null, simple, float, Items, no_items, item, Pairs, no_pairs, pair}
use Rattle.passkey_cbor.specs.Encoding.{items_len, pairs_len, boolean_byte}

-- the shortest encoding of a head
unfoldable pub shortest_head : ℕ → ℕ → List ℕ
shortest_head major n =
    if nat_lt n 24 then (32 * major + n) ∷ []
    else if nat_lt n (2 ^ 8) then (32 * major + 24) ∷ to_be_bytes w8 n
    else if nat_lt n (2 ^ 16) then (32 * major + 25) ∷ to_be_bytes w16 n
    else if nat_lt n (2 ^ 32) then (32 * major + 26) ∷ to_be_bytes w32 n
    else (32 * major + 27) ∷ to_be_bytes w64 n

-- a float in its own width
unfoldable pub float_head : FloatParts → List ℕ
float_head f =
    if f.width == 2 then 249 ∷ to_be_bytes w16 f.bits
    else if f.width == 4 then 250 ∷ to_be_bytes w32 f.bits
    else 251 ∷ to_be_bytes w64 f.bits

abbrev pub simple_head : ℕ → List ℕ
simple_head n = if nat_lt n 20 then (224 + n) ∷ [] else 248 ∷ n ∷ []

abbrev mutual
  pub written : Item → List ℕ
  written (number (pos n)) = shortest_head 0 n
  written (number (negsuc n)) = shortest_head 1 n
  written (byte_string s) = shortest_head 2 (length s) ++ s
  written (text_string s) = shortest_head 3 (length s) ++ s
  written (array xs) = shortest_head 4 (items_len xs) ++ items_written xs
  written (map ps) = shortest_head 5 (pairs_len ps) ++ pairs_written ps
  written (tagged t x) = shortest_head 6 t ++ written x
  written (boolean b) = boolean_byte b ∷ []
  written null = 246 ∷ []
  written (simple n) = simple_head n
  written (float f) = float_head f

  pub items_written : Items → List ℕ
  items_written no_items = []
  items_written (item x xs) = written x ++ items_written xs

  pub pairs_written : Pairs → List ℕ
  pairs_written no_pairs = []
  pairs_written (pair k v ps) = (written k ++ written v) ++ pairs_written ps
