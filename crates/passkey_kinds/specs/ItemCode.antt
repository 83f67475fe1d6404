-- Data items as ghost values, so that contracts can see a struct as the item that it keeps.
use Rattle.passkey_cbor.specs.Item.{Item, Items, Pairs, number, byte_string, text_string, array, map, tagged, boolean, null, simple, float, no_items, item, no_pairs, pair}
use Rattle.std.specs.Prelude.{◌≡◌, ℕ, ◌==◌, pos, negsuc, if◌then◌else◌, List, [], ◌∷◌, Bool, true, false, refl}
use Rattle.std.proofs.Common.{sym, ◌∙◌, ap}
use base.Stored.{Coded, Gv, gnil, gnum, gcons}

abbrev numbers_code : List ℕ → Gv
numbers_code [] = gnil
numbers_code (n ∷ ns) = gcons (gnum n) (numbers_code ns)

abbrev truth_code : Bool → Gv
truth_code false = gnum 0
truth_code true = gnum 1

abbrev mutual
  item_code : Item → Gv
  item_code (number (pos n)) = gcons (gnum 0) (gnum n)
  item_code (number (negsuc n)) = gcons (gnum 1) (gnum n)
  item_code (byte_string s) = gcons (gnum 2) (numbers_code s)
  item_code (text_string s) = gcons (gnum 3) (numbers_code s)
  item_code (array xs) = gcons (gnum 4) (items_code xs)
  item_code (map ps) = gcons (gnum 5) (pairs_code ps)
  item_code (tagged t x) = gcons (gnum 6) (gcons (gnum t) (item_code x))
  item_code (boolean b) = gcons (gnum 7) (truth_code b)
  item_code (simple n) = gcons (gnum 8) (gnum n)
  item_code (float f) = gcons (gnum 9) (gcons (gnum f.width) (gnum f.bits))
  item_code null = gnil

  items_code : Items → Gv
  items_code no_items = gnil
  items_code (item x xs) = gcons (item_code x) (items_code xs)

  pairs_code : Pairs → Gv
  pairs_code no_pairs = gnil
  pairs_code (pair k v ps) = gcons (item_code k) (gcons (item_code v) (pairs_code ps))

-- What a ghost value is the code of, as each kind of value that it may be one of.
record Decoded : Type 0 where
  number_value : ℕ
  numbers : List ℕ
  item_value : Item
  items : Items
  pairs : Pairs
  first : ℕ
  rest_number : ℕ
  rest_item : Item
  head_item : Item
  rest_pairs : Pairs

-- the item of a tag and of what follows it
abbrev tagged_item : ℕ → Decoded → Item
tagged_item t d =
    if t == 0 then number (pos d.number_value) else (
    if t == 1 then number (negsuc d.number_value) else (
    if t == 2 then byte_string d.numbers else (
    if t == 3 then text_string d.numbers else (
    if t == 4 then array d.items else (
    if t == 5 then map d.pairs else (
    if t == 6 then tagged d.first d.rest_item else (
    if t == 7 then boolean (d.number_value == 1) else (
    if t == 8 then simple d.number_value else float record { width = d.first; bits = d.rest_number }))))))))

abbrev decoded : Gv → Decoded
decoded gnil = record {
  number_value = 0;
  numbers = [];
  item_value = null;
  items = no_items;
  pairs = no_pairs;
  first = 0;
  rest_number = 0;
  rest_item = null;
  head_item = null;
  rest_pairs = no_pairs;
}
decoded (gnum n) = record {
  number_value = n;
  numbers = [];
  item_value = null;
  items = no_items;
  pairs = no_pairs;
  first = 0;
  rest_number = 0;
  rest_item = null;
  head_item = null;
  rest_pairs = no_pairs;
}
decoded (gcons a b) = let l : Decoded = decoded a in let r : Decoded = decoded b in record {
  number_value = 0;
  numbers = l.number_value ∷ r.numbers;
  item_value = tagged_item l.number_value r;
  items = item l.item_value r.items;
  pairs = pair l.item_value r.head_item r.rest_pairs;
  first = l.number_value;
  rest_number = r.number_value;
  rest_item = r.item_value;
  head_item = l.item_value;
  rest_pairs = r.pairs;
}

numbers_back : (s : List ℕ) → (decoded (numbers_code s)).numbers ≡ s
numbers_back [] = refl
numbers_back (n ∷ ns) = ap (λ s. n ∷ s) (numbers_back ns)

truth_back : (b : Bool) → ((decoded (truth_code b)).number_value == 1) ≡ b
truth_back true = refl
truth_back false = refl

mutual
  item_back : (x : Item) → (decoded (item_code x)).item_value ≡ x
  item_back (number (pos n)) = refl
  item_back (number (negsuc n)) = refl
  item_back (byte_string s) = ap byte_string (numbers_back s)
  item_back (text_string s) = ap text_string (numbers_back s)
  item_back (array xs) = ap array (items_back xs)
  item_back (map ps) = ap map (pairs_back ps)
  item_back (tagged t x) = ap (λ y. tagged t y) (item_back x)
  item_back (boolean b) = ap boolean (truth_back b)
  item_back (simple n) = refl
  item_back (float f) = refl
  item_back null = refl

  items_back : (xs : Items) → (decoded (items_code xs)).items ≡ xs
  items_back no_items = refl
  items_back (item x xs) = ap (λ y. item y (decoded (items_code xs)).items) (item_back x) ∙ ap (λ ys. item x ys) (items_back xs)

  pairs_back : (ps : Pairs) → (decoded (pairs_code ps)).pairs ≡ ps
  pairs_back no_pairs = refl
  pairs_back (pair k v ps) =
      ap (λ y. pair y (decoded (item_code v)).item_value (decoded (pairs_code ps)).pairs) (item_back k) ∙
      (ap (λ y. pair k y (decoded (pairs_code ps)).pairs) (item_back v) ∙ ap (λ y. pair k v y) (pairs_back ps))

-- an item as a ghost value
pub coded_item : Coded Item
coded_item = record {
  code = item_code;
  inj = λ x y same. sym (item_back x) ∙ (ap (λ g. (decoded g).item_value) same ∙ item_back y);
}
