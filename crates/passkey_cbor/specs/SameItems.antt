-- `item_eq` decides whether two data items are equal: proofs that the impls of PartialEq and Eq cite.
use Rattle.std.proofs.Common.{◌≡◌, ◌==◌, ◌&&◌, Bool, true, false, refl, sym, ap, subst, ◌∙◌}
use Rattle.std.specs.Bool.{Decides}
use Rattle.std.specs.Cmp.{IsEquivalence, decided, first_so, second_so, signed_Decides, unsigned_Decides}
use Rattle.std.proofs.lemmas.Bool.{true≢false}
use Rattle.std.proofs.lemmas.Slice.Eq.{bytes_eq-Decides}
use Rattle.passkey_cbor.specs.FloatParts.{FloatParts}
use Rattle.passkey_cbor.specs.Item.{Item, number, byte_string, text_string, array, map, tagged, boolean, null, simple, float, Items, no_items, item, Pairs, no_pairs, pair}
use Rattle.passkey_cbor.specs.Same.{boolean_eq, float_eq, item_eq, items_eq, pairs_eq}

boolean_same : (b c : Bool) → boolean_eq b c ≡ true → b ≡ c
boolean_same true c e = sym e
boolean_same false true e = e
boolean_same false false e = refl

boolean_own : (b : Bool) → boolean_eq b b ≡ true
boolean_own true = refl
boolean_own false = refl

float_same : (f g : FloatParts) → float_eq f g ≡ true → f ≡ g
float_same f g e =
    let widths = (unsigned_Decides f.width g.width).0 (first_so (f.width == g.width) (f.bits == g.bits) e) in
    let bits = (unsigned_Decides f.bits g.bits).0 (second_so (f.width == g.width) (f.bits == g.bits) e) in
    λ i. record { width = widths i; bits = bits i }

both_true : (b c : Bool) → b ≡ true → c ≡ true → (b && c) ≡ true
both_true b c p q = ap (λ (d : Bool). d && c) p ∙ q

unequal : {P : Type 0} → false ≡ true → P
unequal e = absurd (true≢false (sym e))

mutual
  item_same : (x y : Item) → item_eq x y ≡ true → x ≡ y
  item_same (number z) (number w) e = ap number ((signed_Decides z w).0 e)
  item_same (byte_string s) (byte_string t) e = ap byte_string ((bytes_eq-Decides s t).0 e)
  item_same (text_string s) (text_string t) e = ap text_string ((bytes_eq-Decides s t).0 e)
  item_same (array xs) (array ys) e = ap array (items_same xs ys e)
  item_same (map ps) (map qs) e = ap map (pairs_same ps qs e)
  item_same (tagged t x) (tagged u y) e =
      let tags = (unsigned_Decides t u).0 (first_so (t == u) (item_eq x y) e) in
      let inner = item_same x y (second_so (t == u) (item_eq x y) e) in
      λ i. tagged (tags i) (inner i)
  item_same (boolean b) (boolean c) e = ap boolean (boolean_same b c e)
  item_same null null e = refl
  item_same (simple n) (simple m) e = ap simple ((unsigned_Decides n m).0 e)
  item_same (float f) (float g) e = ap float (float_same f g e)
  item_same x y e = unequal e

  items_same : (xs ys : Items) → items_eq xs ys ≡ true → xs ≡ ys
  items_same no_items no_items e = refl
  items_same (item x xs) (item y ys) e =
      let firsts = item_same x y (first_so (item_eq x y) (items_eq xs ys) e) in
      let rests = items_same xs ys (second_so (item_eq x y) (items_eq xs ys) e) in
      λ i. item (firsts i) (rests i)
  items_same xs ys e = unequal e

  pairs_same : (ps qs : Pairs) → pairs_eq ps qs ≡ true → ps ≡ qs
  pairs_same no_pairs no_pairs e = refl
  pairs_same (pair k v ps) (pair l w qs) e =
      let firsts = first_so (item_eq k l && item_eq v w) (pairs_eq ps qs) e in
      let keys = item_same k l (first_so (item_eq k l) (item_eq v w) firsts) in
      let values = item_same v w (second_so (item_eq k l) (item_eq v w) firsts) in
      let rests = pairs_same ps qs (second_so (item_eq k l && item_eq v w) (pairs_eq ps qs) e) in
      λ i. pair (keys i) (values i) (rests i)
  pairs_same ps qs e = unequal e

mutual
  item_own : (x : Item) → item_eq x x ≡ true
  item_own (number z) = (signed_Decides z z).1 refl
  item_own (byte_string s) = (bytes_eq-Decides s s).1 refl
  item_own (text_string s) = (bytes_eq-Decides s s).1 refl
  item_own (array xs) = items_own xs
  item_own (map ps) = pairs_own ps
  item_own (tagged t x) = both_true (t == t) (item_eq x x) ((unsigned_Decides t t).1 refl) (item_own x)
  item_own (boolean b) = boolean_own b
  item_own null = refl
  item_own (simple n) = (unsigned_Decides n n).1 refl
  item_own (float f) = both_true (f.width == f.width) (f.bits == f.bits) ((unsigned_Decides f.width f.width).1 refl)
      ((unsigned_Decides f.bits f.bits).1 refl)

  items_own : (xs : Items) → items_eq xs xs ≡ true
  items_own no_items = refl
  items_own (item x xs) = both_true (item_eq x x) (items_eq xs xs) (item_own x) (items_own xs)

  pairs_own : (ps : Pairs) → pairs_eq ps ps ≡ true
  pairs_own no_pairs = refl
  pairs_own (pair k v ps) = both_true (item_eq k k && item_eq v v) (pairs_eq ps ps)
      (both_true (item_eq k k) (item_eq v v) (item_own k) (item_own v)) (pairs_own ps)

pub item_Decides : (x y : Item) → Decides (item_eq x y) (x ≡ y)
item_Decides x y = (item_same x y, λ e. subst (λ (z : Item). item_eq x z ≡ true) e (item_own x))

pub item_eq-equivalence : IsEquivalence item_eq
item_eq-equivalence = decided item_eq item_Decides
