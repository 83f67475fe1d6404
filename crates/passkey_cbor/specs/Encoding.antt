-- The encodings of a data item (RFC 8949, sections 3 to 3.3).
use Rattle.std.specs.Prelude.{◌≡◌, ℕ, suc, ◌+◌, ◌*◌, ◌<◌, ◌≤◌, pos, negsuc, List, [], ◌∷◌, length, Bool, true, false}
use Rattle.std.specs.List.{concat}
use Rattle.std.specs.Str.{IsUtf8}
use Rattle.passkey_cbor.specs.Item.{Item, number, byte_string, text_string, array, map, tagged, boolean, null, simple, float, Items, no_items, item, Pairs, no_pairs, pair}
use Rattle.passkey_cbor.specs.Languages.{Language, Is, Then, Either, Provided, Some_of, Each}
use Rattle.passkey_cbor.specs.Heads.{Heads, indefinite, break, FloatHeads}

abbrev pub items_len : Items → ℕ
items_len no_items = 0
items_len (item x xs) = suc (items_len xs)

abbrev pub pairs_len : Pairs → ℕ
pairs_len no_pairs = 0
pairs_len (pair k v ps) = suc (pairs_len ps)

-- a head with the count, and the contents; or, with indefinite length, the contents and a break
abbrev pub Listed : ℕ → ℕ → Language → Language
Listed major count Inside =
    Either (Then (Heads major count) Inside) (Then (Is (indefinite major ∷ [])) (Then Inside (Is (break ∷ []))))

-- a definite-length string whose content is allowed
abbrev pub Definite : (List ℕ → Type 0) → ℕ → List ℕ → Language
Definite IsAllowed major s = Provided (IsAllowed s) (Then (Heads major (length s)) (Is s))

-- chunks: definite-length strings of allowed content, which join to this string
abbrev pub Chunks : (List ℕ → Type 0) → ℕ → List ℕ → Language
Chunks IsAllowed major s = Some_of (λ chunks. Provided (concat chunks ≡ s) (Each (Definite IsAllowed major) chunks))

-- a definite-length string; or an indefinite-length one: chunks, the content of each allowed by itself, and a
-- break
abbrev pub Strings : (List ℕ → Type 0) → ℕ → List ℕ → Language
Strings IsAllowed major s =
    Either (Definite IsAllowed major s)
    (Then (Is (indefinite major ∷ [])) (Then (Chunks IsAllowed major s) (Is (break ∷ []))))

abbrev pub IsAny : List ℕ → Type 0
IsAny s = Unit {0}

abbrev pub boolean_byte : Bool → ℕ
boolean_byte false = 244
boolean_byte true = 245

-- a simple value other than false, true, null and undefined, in one byte or in two
abbrev pub Simples : ℕ → Language
Simples n =
    Either (Provided (n < 20) (Is ((32 * 7 + n) ∷ []))) (Provided ((32 ≤ n) × (n < 256)) (Is (248 ∷ n ∷ [])))

abbrev mutual
  pub IsEncoding : Item → Language
  IsEncoding (number (pos n)) = Heads 0 n
  IsEncoding (number (negsuc n)) = Heads 1 n
  IsEncoding (byte_string s) = Strings IsAny 2 s
  IsEncoding (text_string s) = Strings IsUtf8 3 s
  IsEncoding (array xs) = Listed 4 (items_len xs) (IsEncodingOfItems xs)
  IsEncoding (map ps) = Listed 5 (pairs_len ps) (IsEncodingOfPairs ps)
  IsEncoding (tagged t x) = Then (Heads 6 t) (IsEncoding x)
  IsEncoding (boolean b) = Is (boolean_byte b ∷ [])
  IsEncoding null = Either (Is (246 ∷ [])) (Is (247 ∷ []))
  IsEncoding (simple n) = Simples n
  IsEncoding (float f) = FloatHeads f

  pub IsEncodingOfItems : Items → Language
  IsEncodingOfItems no_items = Is []
  IsEncodingOfItems (item x xs) = Then (IsEncoding x) (IsEncodingOfItems xs)

  pub IsEncodingOfPairs : Pairs → Language
  IsEncodingOfPairs no_pairs = Is []
  IsEncodingOfPairs (pair k v ps) = Then (Then (IsEncoding k) (IsEncoding v)) (IsEncodingOfPairs ps)
