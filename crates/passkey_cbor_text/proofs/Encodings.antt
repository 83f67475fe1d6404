-- An encoding has at least one byte.
use Rattle.std.proofs.Common.{◌≡◌, ℕ, ◌+◌, ◌<◌, pos, negsuc, arith, List, ◌++◌, length, length-append}
use Rattle.std.proofs.lemmas.Bool.Decides.{nat_tests}
use Rattle.passkey_cbor.specs.FloatParts.{FloatParts}
use Rattle.passkey_cbor.specs.Item.{Item, number, byte_string, text_string, array, map, tagged, boolean, null, simple, float}
use Rattle.passkey_cbor.specs.Written.{float_head, shortest_head, written}

head_long : (major n : ℕ) → 0 < length (shortest_head major n)
unfolding shortest_head
head_long major n = grind (arith, nat_tests)

float_long : (f : FloatParts) → 0 < length (float_head f)
unfolding float_head
float_long f = grind (arith, nat_tests)

simple_long : (n : ℕ) → 0 < length (written (simple n))
simple_long n = grind (arith, nat_tests)

front_long : (xs ys : List ℕ) → 0 < length xs → 0 < length (xs ++ ys)
front_long xs ys h = omega (arith, length-append xs ys)

pub written_long : (i : Item) → 0 < length (written i)
written_long (number (pos n)) = head_long 0 n
written_long (number (negsuc n)) = head_long 1 n
written_long (byte_string s) = front_long _ s (head_long 2 _)
written_long (text_string s) = front_long _ s (head_long 3 _)
written_long (array xs) = front_long _ _ (head_long 4 _)
written_long (map ps) = front_long _ _ (head_long 5 _)
written_long (tagged t x) = front_long _ _ (head_long 6 t)
written_long (boolean b) = omega arith
written_long null = omega arith
written_long (simple n) = simple_long n
written_long (float f) = float_long f

pub encoding_long : (i : Item) (bytes : List ℕ) → bytes ≡ written i → 0 < length bytes
encoding_long i bytes e = rw e (written_long i)
