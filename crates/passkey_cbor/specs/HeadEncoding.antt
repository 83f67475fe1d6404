-- The encodings of a `Head` (RFC 8949, section 3).
use Rattle.std.specs.Prelude.{ℕ, ◌+◌, ◌*◌, ◌<◌, ◌≤◌, [], ◌∷◌, Option, Some, None}
use Rattle.passkey_cbor.specs.Languages.{Language, Is, Either, Provided}
use Rattle.passkey_cbor.specs.Heads.{Heads, indefinite, break, FloatHeads}
use Rattle.passkey_cbor.specs.declared.head.Head.{Head}
use Rattle.passkey_cbor.specs.declared.head.Head.TheVariants as head

-- the head of a string, array or map, with its length; `None` for indefinite length
abbrev pub LengthHeads : ℕ → Option ℕ → Language
LengthHeads major (Some n) = Heads major n
LengthHeads major None = Is (indefinite major ∷ [])

-- a simple value; false, true, null and undefined are among them
abbrev pub SimpleHeads : ℕ → Language
SimpleHeads n =
    Either (Provided (n < 24) (Is ((32 * 7 + n) ∷ []))) (Provided ((32 ≤ n) × (n < 256)) (Is (248 ∷ n ∷ [])))

abbrev pub IsEncodingOfHead : Head → Language
IsEncodingOfHead (head.Unsigned n) = Heads 0 n
IsEncodingOfHead (head.Negative n) = Heads 1 n
IsEncodingOfHead (head.Bytes len) = LengthHeads 2 len
IsEncodingOfHead (head.Text len) = LengthHeads 3 len
IsEncodingOfHead (head.Array len) = LengthHeads 4 len
IsEncodingOfHead (head.Map len) = LengthHeads 5 len
IsEncodingOfHead (head.Tag n) = Heads 6 n
IsEncodingOfHead (head.Simple n) = SimpleHeads n
IsEncodingOfHead (head.Float f) = FloatHeads f
IsEncodingOfHead head.Break = Is (break ∷ [])
