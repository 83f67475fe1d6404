-- Data items: their encodings decode to them, and bytes that decode to them encode them.
use Rattle.std.proofs.Common.{◌≡◌, ◌⊎◌, ℕ, zero, suc, ◌+◌, ◌<◌, ◌≤◌, pos, negsuc, true, false, List, [], ◌∷◌, ◌++◌, length, Option, Some, None, refl, sym, ap, subst, ◌∙◌, append_assoc, arith, inl, inr}
use Rattle.std.proofs.lemmas.Bool.{cases_eq, cases_lt, lt-ltb, le-ltb, ne_eqb}
use Rattle.std.proofs.lemmas.List.{append-nil}
use Rattle.passkey_cbor.specs.Bytes.{IsBytes}
use Rattle.passkey_cbor.specs.Item.{Item, number, byte_string, text_string, array, map, tagged, boolean, null, simple, float, Items, no_items, item, Pairs, no_pairs, pair, elements, members, items_of, pairs_of}
use Rattle.passkey_cbor.specs.Depth.{depth, items_depth, pairs_depth}
use Rattle.passkey_cbor.specs.Languages.{Language, Is, Then, Each}
use Rattle.passkey_cbor.specs.Heads.{Heads}
use Rattle.passkey_cbor.specs.Encoding.{Listed, IsEncoding, IsEncodingOfItems, IsEncodingOfPairs, items_len, pairs_len}
use Rattle.passkey_cbor.specs.HeadEncoding.{LengthHeads, SimpleHeads, IsEncodingOfHead}
use Rattle.passkey_cbor.specs.Inside.{Within, PairWithin, Left}
use Rattle.passkey_cbor.specs.HeadReading.{◌>>=◌, head_at}
use Rattle.passkey_cbor.specs.Reading.{Reader, start, is_break, list_at, string_at, simple_item, pair_by, item_by, item_within}
use Rattle.passkey_cbor.specs.declared.head.Head.{Head}
use Rattle.passkey_cbor.specs.declared.head.Head.TheVariants as head
use Rattle.passkey_cbor.proofs.items.Binds.{some_is, none_is_some, bind_some, bind_at}
use Rattle.passkey_cbor.proofs.heads.HeadTakes.{Took, took_as, head_takes}
use Rattle.passkey_cbor.proofs.items.Lists.{Follows, list_at_again, list_takes}
use Rattle.passkey_cbor.proofs.strings.Strings.{Headed, starts, took_after, string_again, string_takes, string_headed, headed_string}

-- ---- the items of an array, and the pairs of a map, one after the other

pub items_of-elements : (xs : Items) → items_of (elements xs) ≡ xs
items_of-elements no_items = refl
items_of-elements (item x xs) = ap (item x) (items_of-elements xs)

pub pairs_of-members : (ps : Pairs) → pairs_of (members ps) ≡ ps
pairs_of-members no_pairs = refl
pairs_of-members (pair k v ps) = ap (pair k v) (pairs_of-members ps)

pub elements-items_of : (xs : List Item) → elements (items_of xs) ≡ xs
elements-items_of [] = refl
elements-items_of (x ∷ xs) = ap (λ (ys : List Item). x ∷ ys) (elements-items_of xs)

pub members-pairs_of : (ms : List (Item × Item)) → members (pairs_of ms) ≡ ms
members-pairs_of [] = refl
members-pairs_of (m ∷ ms) = ap (λ (ns : List (Item × Item)). m ∷ ns) (members-pairs_of ms)

pub length-elements : (xs : Items) → items_len xs ≡ length (elements xs)
length-elements no_items = refl
length-elements (item x xs) = ap suc (length-elements xs)

pub length-members : (ps : Pairs) → pairs_len ps ≡ length (members ps)
length-members no_pairs = refl
length-members (pair k v ps) = ap suc (length-members ps)

pub items_len-items_of : (xs : List Item) → length xs ≡ items_len (items_of xs)
items_len-items_of [] = refl
items_len-items_of (x ∷ xs) = ap suc (items_len-items_of xs)

pub pairs_len-pairs_of : (ms : List (Item × Item)) → length ms ≡ pairs_len (pairs_of ms)
pairs_len-pairs_of [] = refl
pairs_len-pairs_of (m ∷ ms) = ap suc (pairs_len-pairs_of ms)

pub each_element : (levels : ℕ) (xs : Items) (t : List ℕ) → items_depth xs ≤ levels → IsEncodingOfItems xs t
    → Each (Within levels) (elements xs) t
each_element levels no_items t deep s = s
each_element levels (item x xs) t deep s = record {
  front = s.front;
  back = s.back;
  first = (omega (arith, deep), s.first);
  second = each_element levels xs s.back (omega (arith, deep)) s.second;
  whole = s.whole;
}

pub each_member : (levels : ℕ) (ps : Pairs) (t : List ℕ) → pairs_depth ps ≤ levels → IsEncodingOfPairs ps t
    → Each (PairWithin levels) (members ps) t
each_member levels no_pairs t deep s = s
each_member levels (pair k v ps) t deep s =
    let m = s.first in
    record {
      front = s.front;
      back = s.back;
      first = record {
        front = m.front;
        back = m.back;
        first = (omega (arith, deep), m.first);
        second = (omega (arith, deep), m.second);
        whole = m.whole;
      };
      second = each_member levels ps s.back (omega (arith, deep)) s.second;
      whole = s.whole;
    }

elements_encoded : (levels : ℕ) (xs : List Item) (t : List ℕ) → Each (Within levels) xs t
    → (items_depth (items_of xs) ≤ levels) × IsEncodingOfItems (items_of xs) t
elements_encoded levels [] t s = (omega arith, s)
elements_encoded levels (x ∷ xs) t s =
    let more = elements_encoded levels xs s.back s.second in (
      omega (arith, more.0, s.first.0),
      record { front = s.front; back = s.back; first = s.first.1; second = more.1; whole = s.whole },
    )

members_encoded : (levels : ℕ) (ms : List (Item × Item)) (t : List ℕ) → Each (PairWithin levels) ms t
    → (pairs_depth (pairs_of ms) ≤ levels) × IsEncodingOfPairs (pairs_of ms) t
members_encoded levels [] t s = (omega arith, s)
members_encoded levels (m ∷ ms) t s =
    let more = members_encoded levels ms s.back s.second in
    let f = s.first in (
      omega (arith, more.0, f.first.0, f.second.0),
      record {
        front = s.front;
        back = s.back;
        first = record { front = f.front; back = f.back; first = f.first.1; second = f.second.1; whole = f.whole };
        second = more.1;
        whole = s.whole;
      },
    )

-- ---- both encodings of a list are a head and what follows it

pub listed_headed : {A : Type 0} (major count : ℕ) (P : A → Language) (xs : List A) (Inside : Language) (t : List ℕ)
    → count ≡ length xs → ((s : List ℕ) → Inside s → Each P xs s) → Listed major count Inside t
    → Headed major (λ len. Left P len xs) t
listed_headed major count P xs Inside t size each (inl p) =
    record {
      len = Some count;
      parts = record {
        front = p.front;
        back = p.back;
        first = p.first;
        second = (size, each p.back p.second);
        whole = p.whole;
      };
    }
listed_headed major count P xs Inside t size each (inr p) =
    let q = p.second in
    record {
      len = None;
      parts = record {
        front = p.front;
        back = p.back;
        first = p.first;
        second = record {
          front = q.front;
          back = q.back;
          first = each q.front q.first;
          second = q.second;
          whole = q.whole;
        };
        whole = p.whole;
      };
    }

headed_listed : {A : Type 0} (major count : ℕ) (P : A → Language) (xs : List A) (Inside : Language) (t : List ℕ)
    (len : Option ℕ) → length xs ≡ count → ((s : List ℕ) → Each P xs s → Inside s)
    → Then (LengthHeads major len) (Left P len xs) t → Listed major count Inside t
headed_listed major count P xs Inside t (Some n) size inside p =
    inl (record {
      front = p.front;
      back = p.back;
      first = subst (λ (k : ℕ). Heads major k p.front)
          (p.second.0 ∙ size) p.first;
      second = inside p.back p.second.1;
      whole = p.whole;
    })
headed_listed major count P xs Inside t None size inside p =
    let q = p.second in
    inr (record {
      front = p.front;
      back = p.back;
      first = p.first;
      second = record {
        front = q.front;
        back = q.back;
        first = inside q.front q.first;
        second = q.second;
        whole = q.whole;
      };
      whole = p.whole;
    })

-- ---- two data items

pair_again : (P : Item → Language) (read : Reader Item) (f : Follows P read) (m : Item × Item) (t u : List ℕ)
    → Then (P m.0) (P m.1) t → start (pair_by read) (t ++ u) ≡ Some (m, u)
pair_again P read f m t u s =
    let regroup : t ++ u ≡ s.front ++ (s.back ++ u) =
    ap (λ (r : List ℕ). r ++ u) s.whole ∙ append_assoc s.front s.back u in
    let b = bind_some (head_at (s.front ++ (s.back ++ u))) (λ h. read h.0 h.1) (m.0, s.back ++ u)
    (f.again m.0 s.front (s.back ++ u) s.first) in
    ap (start (pair_by read)) regroup
    ∙ bind_at (head_at (s.front ++ (s.back ++ u))) b.0 (λ h. pair_by read h.0 h.1) b.1
    ∙ bind_at (read b.0.0 b.0.1) (m.0, s.back ++ u) (λ k. start read k.1 >>= λ v. Some ((k.0, v.0), v.1)) b.2
    ∙ bind_at (start read (s.back ++ u)) (m.1, u) (λ v. Some ((m.0, v.0), v.1)) (f.again m.1 s.back u s.second)

-- decoding a pair: the key, then the value
record TwoRead (read : Reader Item) (h : Head) (bytes : List ℕ) (m : Item × Item) (u : List ℕ) : Type 0 where
  middle : List ℕ
  key : read h bytes ≡ Some (m.0, middle)
  value : start read middle ≡ Some (m.1, u)

two_read : (read : Reader Item) (h : Head) (bytes : List ℕ) (m : Item × Item) (u : List ℕ)
    → pair_by read h bytes ≡ Some (m, u) → TwoRead read h bytes m u
two_read read h bytes m u e =
    let k = bind_some (read h bytes) (λ k. start read k.1 >>= λ v. Some ((k.0, v.0), v.1)) (m, u) e in
    let v = bind_some (start read k.0.1) (λ v. Some ((k.0.0, v.0), v.1)) (m, u) k.2 in
    let p = some_is (let both : Item × Item = (k.0.0, v.0.0) in (both, v.0.1)) (m, u) v.2 in
    record {
      middle = k.0.1;
      key = k.1 ∙ ap (λ (q : (Item × Item) × List ℕ). Some (q.0.0, k.0.1)) p;
      value = v.1 ∙ ap (λ (q : (Item × Item) × List ℕ). Some (q.0.1, q.1)) p;
    }

pair_takes : (P : Item → Language) (read : Reader Item) (f : Follows P read) (m : Item × Item) (bytes u : List ℕ)
    → IsBytes bytes → start (pair_by read) bytes ≡ Some (m, u) → Took (Then (P m.0) (P m.1)) bytes u
pair_takes P read f m bytes u fits e =
    let h = bind_some (head_at bytes) (λ h. pair_by read h.0 h.1) (m, u) e in
    let two = two_read read h.0.0 h.0.1 m u h.2 in
    let one = f.takes m.0 bytes two.middle fits (bind_at (head_at bytes) h.0 (λ h. read h.0 h.1) h.1 ∙ two.key) in
    took_after (P m.0) (P m.1) bytes two.middle u one (f.takes m.1 two.middle u one.rest_fits two.value)

pub follows_pair : (P : Item → Language) (read : Reader Item) → Follows P read
    → Follows (λ m. Then (P m.0) (P m.1)) (pair_by read)
follows_pair P read f = record {
  again = pair_again P read f;
  takes = pair_takes P read f;
  no_break = λ h bytes y e. let two =
      two_read read h bytes y.0 y.1 e in f.no_break h bytes (y.0.0, two.middle) two.key;
}

-- ---- simple values

pub low_simple : (n : ℕ) → n < 20 → simple_item n ≡ simple n
low_simple n lt = rw (lt-ltb n 20 lt) refl

pub high_simple : (n : ℕ) → 32 ≤ n → simple_item n ≡ simple n
high_simple n le =
    rw (
      le-ltb n 20 (omega arith),
      ne_eqb n 20 (λ (q : n ≡ 20). omega arith),
      ne_eqb n 21 (λ (q : n ≡ 21). omega arith),
      le-ltb n 24 (omega arith),
    ) refl

-- the data item of a simple value's head is encoded by that head
simple_encoded : (n : ℕ) (t : List ℕ) → SimpleHeads n t → IsEncoding (simple_item n) t
simple_encoded n t (inr s) = subst (λ (x : Item). IsEncoding x t) (sym (high_simple n s.0.0)) (inr s)
simple_encoded n t (inl s) = by_20 (cases_lt n 20) where
  by_23 : 22 ≤ n → (n ≡ 22) ⊎ (n ≡ 22 → ⊥) → IsEncoding (simple_item n) t
  by_23 le (inl q) =
      subst (λ (k : ℕ). IsEncoding (simple_item k) t) (sym q) (inl (s.1 ∙ ap (λ (k : ℕ). (224 + k) ∷ []) q))
  by_23 le (inr other) =
      let q : n ≡ 23 = omega (arith, s.0, other) in
      subst (λ (k : ℕ). IsEncoding (simple_item k) t) (sym q) (inr (s.1 ∙ ap (λ (k : ℕ). (224 + k) ∷ []) q))

  by_22 : 21 ≤ n → (n ≡ 21) ⊎ (n ≡ 21 → ⊥) → IsEncoding (simple_item n) t
  by_22 le (inl q) =
      subst (λ (k : ℕ). IsEncoding (simple_item k) t) (sym q) (s.1 ∙ ap (λ (k : ℕ). (224 + k) ∷ []) q)
  by_22 le (inr other) = by_23 (omega (arith, le, other)) (cases_eq n 22)

  by_21 : 20 ≤ n → (n ≡ 20) ⊎ (n ≡ 20 → ⊥) → IsEncoding (simple_item n) t
  by_21 le (inl q) =
      subst (λ (k : ℕ). IsEncoding (simple_item k) t) (sym q) (s.1 ∙ ap (λ (k : ℕ). (224 + k) ∷ []) q)
  by_21 le (inr other) = by_22 (omega (arith, le, other)) (cases_eq n 21)

  by_20 : (n < 20) ⊎ (20 ≤ n) → IsEncoding (simple_item n) t
  by_20 (inl lt) = subst (λ (x : Item). IsEncoding x t) (sym (low_simple n lt)) (inl (lt, s.1))
  by_20 (inr le) = by_21 le (cases_eq n 20)

pub simple_depth : (n : ℕ) → depth (simple_item n) ≡ 0
simple_depth n = by_20 (cases_lt n 20) where
  by_24 : 22 ≤ n → (n < 24) ⊎ (24 ≤ n) → depth (simple_item n) ≡ 0
  by_24 le (inl lt) = rw (
    le-ltb n 20 (omega arith),
    ne_eqb n 20 (λ (q : n ≡ 20). omega arith),
    ne_eqb n 21 (λ (q : n ≡ 21). omega arith),
    lt-ltb n 24 lt,
  ) refl
  by_24 le (inr ge) = rw (
    le-ltb n 20 (omega arith),
    ne_eqb n 20 (λ (q : n ≡ 20). omega arith),
    ne_eqb n 21 (λ (q : n ≡ 21). omega arith),
    le-ltb n 24 ge,
  ) refl

  by_21 : 20 ≤ n → (n ≡ 20 → ⊥) → (n ≡ 21) ⊎ (n ≡ 21 → ⊥) → depth (simple_item n) ≡ 0
  by_21 le ne (inl q) = ap (λ (k : ℕ). depth (simple_item k)) q
  by_21 le ne (inr other) = by_24 (omega (arith, le, ne, other)) (cases_lt n 24)

  by_20 : (n < 20) ⊎ (20 ≤ n) → depth (simple_item n) ≡ 0
  by_20 (inl lt) = ap depth (low_simple n lt)
  by_20 (inr le) = elim (cases_eq n 20)
      [ inl q ↦ ap (λ (k : ℕ). depth (simple_item k)) q | inr ne ↦ by_21 le ne (cases_eq n 21) ]

-- ---- any data item

-- the reader for one level deeper, if such a level is allowed
abbrev pub Deeper : ℕ → Option (Reader Item) → Type 0
Deeper zero None = Unit {0}
Deeper zero (Some read) = ⊥
Deeper (suc levels) None = ⊥
Deeper (suc levels) (Some read) = Follows (Within levels) read

-- a simple value's head is the whole data item
by_simple : (inner : Option (Reader Item)) (n : ℕ) (x : Item) (t u : List ℕ) → SimpleHeads n t → simple_item n ≡ x
    → start (item_by inner) (t ++ u) ≡ Some (x, u)
unfolding item_by
by_simple inner n x t u s e =
    starts (item_by inner) (head.Simple n) t [] t u s (sym (append-nil t)) ∙ ap (λ (y : Item). Some (y, u)) e

item_again : (levels : ℕ) (inner : Option (Reader Item)) → Deeper levels inner → (x : Item) (t u : List ℕ)
    → Within levels x t → start (item_by inner) (t ++ u) ≡ Some (x, u)
unfolding item_by
item_again levels inner d (number (pos n)) t u w =
    starts (item_by inner) (head.Unsigned n) t [] t u w.1 (sym (append-nil t))
item_again levels inner d (number (negsuc n)) t u w =
    starts (item_by inner) (head.Negative n) t [] t u w.1 (sym (append-nil t))
item_again levels inner d (byte_string s) t u w =
    let h = string_headed false s t w.1 in
    starts (item_by inner) (head.Bytes h.len) h.parts.front h.parts.back t u h.parts.first h.parts.whole
    ∙ bind_at (string_at false h.len (h.parts.back ++ u)) (s, u) (λ s. Some (byte_string s.0, s.1))
    (string_again false h.len s h.parts.back u h.parts.second)
item_again levels inner d (text_string s) t u w =
    let h = string_headed true s t w.1 in
    starts (item_by inner) (head.Text h.len) h.parts.front h.parts.back t u h.parts.first h.parts.whole
    ∙ bind_at (string_at true h.len (h.parts.back ++ u)) (s, u) (λ s. Some (text_string s.0, s.1))
    (string_again true h.len s h.parts.back u h.parts.second)
item_again zero inner d (array xs) t u w = absurd (omega (arith, w.0))
item_again (suc levels) None d (array xs) t u w = absurd d
item_again (suc levels) (Some read) d (array xs) t u w =
    let h = listed_headed 4 (items_len xs) (Within levels) (elements xs) (IsEncodingOfItems xs) t
    (length-elements xs) (λ s. each_element levels xs s (omega (arith, w.0))) w.1 in
    starts (item_by (Some read)) (head.Array h.len) h.parts.front h.parts.back t u h.parts.first h.parts.whole
    ∙ bind_at (list_at read h.len (h.parts.back ++ u)) (elements xs, u) (λ xs. Some (array (items_of xs.0), xs.1))
    (list_at_again (Within levels) read d h.len (elements xs) h.parts.back u h.parts.second)
    ∙ ap (λ (ys : Items). Some (array ys, u)) (items_of-elements xs)
item_again zero inner d (map ps) t u w = absurd (omega (arith, w.0))
item_again (suc levels) None d (map ps) t u w = absurd d
item_again (suc levels) (Some read) d (map ps) t u w =
    let h = listed_headed 5 (pairs_len ps) (PairWithin levels) (members ps) (IsEncodingOfPairs ps) t
    (length-members ps) (λ s. each_member levels ps s (omega (arith, w.0))) w.1 in
    starts (item_by (Some read)) (head.Map h.len) h.parts.front h.parts.back t u h.parts.first h.parts.whole
    ∙ bind_at (list_at (pair_by read) h.len (h.parts.back ++ u)) (members ps, u)
    (λ ps. Some (map (pairs_of ps.0), ps.1)) (list_at_again (PairWithin levels) (pair_by read)
    (follows_pair (Within levels) read d) h.len (members ps) h.parts.back u h.parts.second)
    ∙ ap (λ (qs : Pairs). Some (map qs, u)) (pairs_of-members ps)
item_again zero inner d (tagged n x) t u w = absurd (omega (arith, w.0))
item_again (suc levels) None d (tagged n x) t u w = absurd d
item_again (suc levels) (Some read) d (tagged n x) t u w =
    let p = w.1 in
    starts (item_by (Some read)) (head.Tag n) p.front p.back t u p.first p.whole
    ∙ bind_at (start read (p.back ++ u)) (x, u) (λ x. Some (tagged n x.0, x.1))
    (d.again x p.back u (omega (arith, w.0), p.second))
item_again levels inner d (boolean false) t u w =
    by_simple inner 20 (boolean false) t u (inl (omega arith, w.1)) refl
item_again levels inner d (boolean true) t u w = by_simple inner 21 (boolean true) t u (inl (omega arith, w.1)) refl
item_again levels inner d null t u (deep, inl s) = by_simple inner 22 null t u (inl (omega arith, s)) refl
item_again levels inner d null t u (deep, inr s) = by_simple inner 23 null t u (inl (omega arith, s)) refl
item_again levels inner d (simple n) t u (deep, inl s) =
    by_simple inner n (simple n) t u (inl (omega (arith, s.0), s.1)) (low_simple n s.0)
item_again levels inner d (simple n) t u (deep, inr s) =
    by_simple inner n (simple n) t u (inr s) (high_simple n s.0.0)
item_again levels inner d (float f) t u w = starts (item_by inner) (head.Float f) t [] t u w.1 (sym (append-nil t))

-- a head and what follows it encode the data item
made : (levels : ℕ) (y x : Item) (t : List ℕ) (P : Language) (r u : List ℕ) → y ≡ x
    → ((s : List ℕ) → P s → Within levels y (t ++ s)) → Took P r u → Took (λ s. Within levels x (t ++ s)) r u
made levels y x t P r u e within k = took_as P (λ s. Within levels x (t ++ s)) r u k
    (subst (λ (z : Item). Within levels z (t ++ k.text)) e (within k.text k.encoded))

-- a head that is the whole data item
alone : (levels : ℕ) (y x : Item) (t r u : List ℕ) → IsBytes r → (let read : Item × List ℕ = (y, r) in Some read)
    ≡ Some (x, u) → depth y ≡ 0 → IsEncoding y t → Took (λ s. Within levels x (t ++ s)) r u
alone levels y x t r u fits e flat s =
    let p = some_is (y, r) (x, u) e in
    let left : r ≡ u = ap (λ (q : Item × List ℕ). q.1) p in
    made levels y x t (Is []) r u (ap (λ (q : Item × List ℕ). q.0) p) (λ n is.
    (omega (arith, flat), subst (IsEncoding y) (sym (ap (λ (m : List ℕ). t ++ m) is ∙ append-nil t)) s))
    (record { text = []; encoded = refl; parts = left; rest_fits = subst IsBytes left fits })

array_depth : (levels : ℕ) (xs : List Item) (len : Option ℕ) (t : List ℕ) → Left (Within levels) len xs t
    → suc (items_depth (items_of xs)) ≤ suc levels
array_depth levels xs (Some n) t s = omega (arith, (elements_encoded levels xs t s.1).0)
array_depth levels xs None t s = omega (arith, (elements_encoded levels xs s.front s.first).0)

map_depth : (levels : ℕ) (ms : List (Item × Item)) (len : Option ℕ) (t : List ℕ) → Left (PairWithin levels) len ms t
    → suc (pairs_depth (pairs_of ms)) ≤ suc levels
map_depth levels ms (Some n) t s = omega (arith, (members_encoded levels ms t s.1).0)
map_depth levels ms None t s = omega (arith, (members_encoded levels ms s.front s.first).0)

after_takes : (levels : ℕ) (inner : Option (Reader Item)) → Deeper levels inner → (h : Head) (t : List ℕ)
    → IsEncodingOfHead h t → (r : List ℕ) (x : Item) (u : List ℕ) → IsBytes r → item_by inner h r ≡ Some (x, u)
    → Took (λ s. Within levels x (t ++ s)) r u
unfolding item_by
after_takes levels inner d (head.Unsigned n) t s r x u fits e = alone levels (number (pos n)) x t r u fits e refl s
after_takes levels inner d (head.Negative n) t s r x u fits e =
    alone levels (number (negsuc n)) x t r u fits e refl s
after_takes levels inner d (head.Bytes len) t s r x u fits e =
    let c = bind_some (string_at false len r) (λ s. Some (byte_string s.0, s.1)) (x, u) e in
    let p = some_is (byte_string c.0.0, c.0.1) (x, u) c.2 in
    made levels (byte_string c.0.0) x t _ r u (ap (λ (q : Item × List ℕ). q.0) p) (λ m k. (
      omega arith,
      headed_string false c.0.0 (t ++ m) len (record {
        front = t;
        back = m;
        first = s;
        second = k;
        whole =
            refl;
      }),
    )) (string_takes false len r c.0.0 u fits (c.1 ∙ ap (λ (q : Item × List ℕ). Some (c.0.0, q.1)) p))
after_takes levels inner d (head.Text len) t s r x u fits e =
    let c = bind_some (string_at true len r) (λ s. Some (text_string s.0, s.1)) (x, u) e in
    let p = some_is (text_string c.0.0, c.0.1) (x, u) c.2 in
    made levels (text_string c.0.0) x t _ r u (ap (λ (q : Item × List ℕ). q.0) p) (λ m k. (
      omega arith,
      headed_string true c.0.0 (t ++ m) len (record {
        front = t;
        back = m;
        first = s;
        second = k;
        whole =
            refl;
      }),
    )) (string_takes true len r c.0.0 u fits (c.1 ∙ ap (λ (q : Item × List ℕ). Some (c.0.0, q.1)) p))
after_takes zero None d (head.Array len) t s r x u fits e = absurd (none_is_some (x, u) e)
after_takes zero (Some read) d (head.Array len) t s r x u fits e = absurd d
after_takes (suc levels) None d (head.Array len) t s r x u fits e = absurd d
after_takes (suc levels) (Some read) d (head.Array len) t s r x u fits e =
    let c = bind_some (list_at read len r) (λ xs. Some (array (items_of xs.0), xs.1)) (x, u) e in
    let p = some_is (array (items_of c.0.0), c.0.1) (x, u) c.2 in
    made (suc levels) (array (items_of c.0.0)) x t (Left (Within levels) len c.0.0) r u
    (ap (λ (q : Item × List ℕ). q.0) p) (λ m k. (
      array_depth levels c.0.0 len m k,
      headed_listed 4 (items_len (items_of c.0.0)) (Within levels) c.0.0 (IsEncodingOfItems (items_of c.0.0))
          (t ++ m) len (items_len-items_of c.0.0) (λ s each. (elements_encoded levels c.0.0 s each).1)
          (record { front = t; back = m; first = s; second = k; whole = refl }),
    ))
    (list_takes (Within levels) read d (suc (length r)) len r c.0.0 u fits
    (c.1 ∙ ap (λ (q : Item × List ℕ). Some (c.0.0, q.1)) p))
after_takes zero None d (head.Map len) t s r x u fits e = absurd (none_is_some (x, u) e)
after_takes zero (Some read) d (head.Map len) t s r x u fits e = absurd d
after_takes (suc levels) None d (head.Map len) t s r x u fits e = absurd d
after_takes (suc levels) (Some read) d (head.Map len) t s r x u fits e =
    let c = bind_some (list_at (pair_by read) len r) (λ ps. Some (map (pairs_of ps.0), ps.1)) (x, u) e in
    let p = some_is (map (pairs_of c.0.0), c.0.1) (x, u) c.2 in
    made (suc levels) (map (pairs_of c.0.0)) x t (Left (PairWithin levels) len c.0.0) r u
    (ap (λ (q : Item × List ℕ). q.0) p) (λ m k. (
      map_depth levels c.0.0 len m k,
      headed_listed 5 (pairs_len (pairs_of c.0.0)) (PairWithin levels) c.0.0 (IsEncodingOfPairs (pairs_of c.0.0))
          (t ++ m) len (pairs_len-pairs_of c.0.0) (λ s each. (members_encoded levels c.0.0 s each).1)
          (record { front = t; back = m; first = s; second = k; whole = refl }),
    ))
    (list_takes (PairWithin levels) (pair_by read) (follows_pair (Within levels) read d) (suc (length r)) len r
    c.0.0 u fits (c.1 ∙ ap (λ (q : Item × List ℕ). Some (c.0.0, q.1)) p))
after_takes zero None d (head.Tag n) t s r x u fits e = absurd (none_is_some (x, u) e)
after_takes zero (Some read) d (head.Tag n) t s r x u fits e = absurd d
after_takes (suc levels) None d (head.Tag n) t s r x u fits e = absurd d
after_takes (suc levels) (Some read) d (head.Tag n) t s r x u fits e =
    let c = bind_some (start read r) (λ y. Some (tagged n y.0, y.1)) (x, u) e in
    let p = some_is (tagged n c.0.0, c.0.1) (x, u) c.2 in
    made (suc levels) (tagged n c.0.0) x t (Within levels c.0.0) r u (ap (λ (q : Item × List ℕ). q.0) p)
    (λ m k. (omega (arith, k.0), record { front = t; back = m; first = s; second = k.1; whole = refl }))
    (d.takes c.0.0 r u fits (c.1 ∙ ap (λ (q : Item × List ℕ). Some (c.0.0, q.1)) p))
after_takes levels inner d (head.Simple n) t s r x u fits e =
    alone levels (simple_item n) x t r u fits e (simple_depth n) (simple_encoded n t s)
after_takes levels inner d (head.Float f) t s r x u fits e = alone levels (float f) x t r u fits e refl s
after_takes levels inner d head.Break t s r x u fits e = absurd (none_is_some (x, u) e)

item_takes : (levels : ℕ) (inner : Option (Reader Item)) → Deeper levels inner → (x : Item) (bytes u : List ℕ)
    → IsBytes bytes → start (item_by inner) bytes ≡ Some (x, u) → Took (Within levels x) bytes u
item_takes levels inner d x bytes u fits e =
    let b = bind_some (head_at bytes) (λ h. item_by inner h.0 h.1) (x, u) e in
    let h = head_takes bytes b.0.0 b.0.1 fits b.1 in
    let k = after_takes levels inner d b.0.0 h.text h.encoded b.0.1 x u h.rest_fits b.2 in
    record {
      text = h.text ++ k.text;
      encoded = k.encoded;
      parts = h.parts ∙ ap (λ (r : List ℕ). h.text ++ r) k.parts ∙ sym (append_assoc h.text k.text u);
      rest_fits = k.rest_fits;
    }

item_no_break : (inner : Option (Reader Item)) (h : Head) (bytes : List ℕ) (y : Item × List ℕ)
    → item_by inner h bytes ≡ Some y → is_break h ≡ false
unfolding item_by
item_no_break inner head.Break bytes y e = absurd (none_is_some y e)
item_no_break inner _ bytes y e = refl

follows_by : (levels : ℕ) (inner : Option (Reader Item)) → Deeper levels inner
    → Follows (Within levels) (item_by inner)
follows_by levels inner d =
    record { again = item_again levels inner d; takes = item_takes levels inner d; no_break = item_no_break inner }

-- the reader decodes exactly the data items of at most this many levels
pub follows_item : (levels : ℕ) → Follows (Within levels) (item_within levels)
unfolding item_within
follows_item zero = follows_by zero None tt
follows_item (suc levels) = follows_by (suc levels) (Some (item_within levels)) (follows_item levels)
