-- A data item in diagnostic notation (RFC 8949, section 8), as the bytes of its text.
use Rattle.std.specs.Prelude.{ℕ, List, [], ◌∷◌, ◌++◌, Bool, true, false, if◌then◌else◌, codes, decimal}
use Rattle.std.specs.Fmt.{signed_decimal}
use Rattle.hex.specs.Hex.{encode_lower}
use Rattle.passkey_cbor.specs.Item.{Item, number, byte_string, text_string, array, map, tagged, boolean, null, simple, float}
use Rattle.passkey_cbor.specs.Item.{Items, no_items, item, Pairs, no_pairs, pair}
use Rattle.passkey_cbor_text.specs.diagnose.FloatText.{float_text}
use Rattle.passkey_cbor_text.specs.diagnose.Quoted.{quoted}

-- A margin begins each line after the first: a line feed and spaces, or nothing where the text is one line. Inside an
-- array or a map it has two more spaces.
abbrev pub deeper : List ℕ → List ℕ
deeper [] = []
deeper (byte ∷ margin) = (byte ∷ margin) ++ 32 ∷ 32 ∷ []

-- what separates elements and members whose lines begin with the margin
abbrev pub comma : List ℕ → List ℕ
comma [] = 44 ∷ 32 ∷ []
comma (byte ∷ margin) = 44 ∷ byte ∷ margin

-- what stands before the first or another element or member, whose line begins with the margin
abbrev pub separator : Bool → List ℕ → List ℕ
separator is_first margin = if is_first then margin else comma margin

-- what stands before the bracket that ends an array or a map, which is empty or not
abbrev pub closing : Bool → List ℕ → List ℕ
closing is_empty margin = if is_empty then [] else margin

abbrev pub have_no_items : Items → Bool
have_no_items no_items = true
have_no_items (item x xs) = false

abbrev pub have_no_pairs : Pairs → Bool
have_no_pairs no_pairs = true
have_no_pairs (pair k v ps) = false

-- The text of an item, and of the elements and members inside, of which the first stands after the second argument
-- and the others after a comma.
abbrev mutual
  pub diagnosis : Item → List ℕ → List ℕ
  diagnosis (number z) margin = signed_decimal z
  diagnosis (byte_string s) margin = codes "h'" ++ encode_lower s ++ 39 ∷ []
  diagnosis (text_string s) margin = quoted s
  diagnosis (array xs) margin =
      91 ∷ (items_text xs (deeper margin) (deeper margin) ++ (closing (have_no_items xs) margin ++ 93 ∷ []))
  diagnosis (map ps) margin =
      123 ∷ (pairs_text ps (deeper margin) (deeper margin) ++ (closing (have_no_pairs ps) margin ++ 125 ∷ []))
  diagnosis (tagged t x) margin = decimal t ++ (40 ∷ (diagnosis x margin ++ 41 ∷ []))
  diagnosis (boolean b) margin = if b then codes "true" else codes "false"
  diagnosis null margin = codes "null"
  diagnosis (simple n) margin = codes "simple(" ++ decimal n ++ 41 ∷ []
  diagnosis (float f) margin = float_text f

  pub items_text : Items → List ℕ → List ℕ → List ℕ
  items_text no_items before margin = []
  items_text (item x xs) before margin = before ++ (diagnosis x margin ++ items_text xs (comma margin) margin)

  pub pairs_text : Pairs → List ℕ → List ℕ → List ℕ
  pairs_text no_pairs before margin = []
  pairs_text (pair k v ps) before margin =
      before ++ (diagnosis k margin ++ (58 ∷ 32 ∷ (diagnosis v margin ++ pairs_text ps (comma margin) margin)))
