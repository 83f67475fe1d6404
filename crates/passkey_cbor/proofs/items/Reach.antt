-- What is decoded has at most as many levels as the reader allows, even if some numbers aren't bytes.
use Rattle.std.proofs.Common.{◌≡◌, ℕ, zero, suc, ◌≤◌, max, true, false, List, [], ◌∷◌, length, Option, Some, None, refl, subst, arith}
use Rattle.passkey_cbor.specs.Depth.{depth, items_depth, pairs_depth}
use Rattle.passkey_cbor.specs.LeadingItemAt.{leading_item_at}
use Rattle.passkey_cbor.specs.LeadingItem.{max_depth}
use Rattle.passkey_cbor.specs.HeadReading.{◌>>=◌, Read, head_at}
use Rattle.passkey_cbor.specs.Item.{Item, array, map, tagged, byte_string, text_string, items_of, pairs_of}
use Rattle.passkey_cbor.specs.Laws.{GivenIsShallow}
use Rattle.passkey_cbor.specs.Reading.{Reader, start, Step, end, element, step_at, after_step, list_by, list_at, string_at, simple_item, pair_by, item_by, item_within}
use Rattle.passkey_cbor.specs.declared.head.Head.{Head}
use Rattle.passkey_cbor.specs.declared.head.Head.TheVariants as head
use Rattle.passkey_cbor.proofs.items.Binds.{some_is, none_is_some, bind_some}
use Rattle.passkey_cbor.proofs.items.Items.{simple_depth}

-- what the reader decodes has at most n levels
abbrev Reaches : {A : Type 0} → (A → ℕ) → ℕ → Reader A → Type 0
Reaches {A} deep n read = (h : Head) (bytes : List ℕ) (y : A × List ℕ) → read h bytes ≡ Some y → deep y.0 ≤ n

abbrev EachWithin : {A : Type 0} → (A → ℕ) → ℕ → List A → Type 0
EachWithin deep n [] = Unit {0}
EachWithin deep n (x ∷ xs) = (deep x ≤ n) × EachWithin deep n xs

start_reach : {A : Type 0} (deep : A → ℕ) (n : ℕ) (read : Reader A) → Reaches deep n read
    → (bytes : List ℕ) (y : A × List ℕ) → start read bytes ≡ Some y → deep y.0 ≤ n
start_reach deep n read r bytes y e =
    let h = bind_some (head_at bytes) (λ h. read h.0 h.1) y e in
    r h.0.0 h.0.1 y h.2

-- ---- lists

after_reach : {A : Type 0} (deep : A → ℕ) (n : ℕ) (read : Reader A) (others : Option ℕ → List ℕ → Read (List A))
    → Reaches deep n read
    → ((left : Option ℕ) (r : List ℕ) (z : List A × List ℕ) → others left r ≡ Some z → EachWithin deep n z.0)
    → (s : Step) (y : List A × List ℕ) → after_step read others s ≡ Some y → EachWithin deep n y.0
after_reach {A} deep n read others r more (end rest) y e =
    subst (λ (q : List A × List ℕ). EachWithin deep n q.0) (some_is ([], rest) y e) tt
after_reach {A} deep n read others r more (element left h rest) y e =
    let x = bind_some (read h rest) (λ x. others left x.1 >>= λ xs. Some (x.0 ∷ xs.0, xs.1)) y e in
    let xs = bind_some (others left x.0.1) (λ xs. Some (x.0.0 ∷ xs.0, xs.1)) y x.2 in
    subst (λ (q : List A × List ℕ). EachWithin deep n q.0) (some_is (x.0.0 ∷ xs.0.0, xs.0.1) y xs.2)
    (r h rest x.0 x.1, more left x.0.1 xs.0 xs.1)

list_reach : {A : Type 0} (deep : A → ℕ) (n : ℕ) (read : Reader A) → Reaches deep n read → (fuel : ℕ) (left :
    Option ℕ) (bytes : List ℕ) (y : List A × List ℕ) → list_by read fuel left bytes ≡ Some y → EachWithin deep n y.0
unfolding list_by
list_reach deep n read r zero left bytes y e = absurd (none_is_some y e)
list_reach deep n read r (suc fuel) left bytes y e =
    let s = bind_some (step_at left bytes) (after_step read (list_by read fuel)) y e in
    after_reach deep n read (list_by read fuel) r (list_reach deep n read r fuel) s.0 y s.2

both_within : (a b n : ℕ) → a ≤ n → b ≤ n → max a b ≤ n
both_within a b n p q = omega (arith, p, q)

items_within : (n : ℕ) (xs : List Item) → EachWithin depth n xs → items_depth (items_of xs) ≤ n
items_within n [] h = omega arith
items_within n (x ∷ xs) h = both_within (depth x) (items_depth (items_of xs)) n h.0 (items_within n xs h.1)

-- ---- pairs

abbrev pair_depth : Item × Item → ℕ
pair_depth m = max (depth m.0) (depth m.1)

pairs_within : (n : ℕ) (ms : List (Item × Item)) → EachWithin pair_depth n ms → pairs_depth (pairs_of ms) ≤ n
pairs_within n [] h = omega arith
pairs_within n (m ∷ ms) h = both_within (pair_depth m) (pairs_depth (pairs_of ms)) n h.0 (pairs_within n ms h.1)

pair_reach : (n : ℕ) (read : Reader Item) → Reaches depth n read → Reaches pair_depth n (pair_by read)
pair_reach n read r h bytes y e =
    let k = bind_some (read h bytes) (λ k. start read k.1 >>= λ v. Some ((k.0, v.0), v.1)) y e in
    let v = bind_some (start read k.0.1) (λ v. Some ((k.0.0, v.0), v.1)) y k.2 in
    let both : Item × Item = (k.0.0, v.0.0) in
    subst (λ (q : (Item × Item) × List ℕ). pair_depth q.0 ≤ n) (some_is (both, v.0.1) y v.2)
    (both_within (depth k.0.0) (depth v.0.0) n (r h bytes k.0 k.1) (start_reach depth n read r k.0.1 v.0 v.1))

-- ---- data items

-- a head that is the whole data item
alone : (n : ℕ) (x : Item) (bytes : List ℕ) (y : Item × List ℕ) → depth x ≡ 0
    → (let read : Item × List ℕ = (x, bytes) in Some read) ≡ Some y → depth y.0 ≤ n
alone n x bytes y flat e =
    subst (λ (q : Item × List ℕ). depth q.0 ≤ n) (some_is (x, bytes) y e) (omega (arith, flat))

-- what was decoded becomes part of a data item
made : {A : Type 0} (n : ℕ) (read : Read A) (make : A → Item) (y : Item × List ℕ) → ((x : A × List ℕ)
    → read ≡ Some x → depth (make x.0) ≤ n) → (read >>= λ x. Some (make x.0, x.1)) ≡ Some y → depth y.0 ≤ n
made n read make y each e =
    let x = bind_some read (λ x. Some (make x.0, x.1)) y e in
    subst (λ (q : Item × List ℕ). depth q.0 ≤ n) (some_is (make x.0.0, x.0.1) y x.2) (each x.0 x.1)

-- the reader for one level deeper, if such a level is allowed
abbrev ReachesBelow : ℕ → Option (Reader Item) → Type 0
ReachesBelow n None = Unit {0}
ReachesBelow zero (Some read) = ⊥
ReachesBelow (suc n) (Some read) = Reaches depth n read

item_by_reach : (n : ℕ) (inner : Option (Reader Item)) → ReachesBelow n inner → Reaches depth n (item_by inner)
unfolding item_by
item_by_reach n inner r (head.Unsigned k) bytes y e = alone n _ bytes y refl e
item_by_reach n inner r (head.Negative k) bytes y e = alone n _ bytes y refl e
item_by_reach n inner r (head.Bytes len) bytes y e =
    made n (string_at false len bytes) byte_string y (λ s f. omega arith) e
item_by_reach n inner r (head.Text len) bytes y e =
    made n (string_at true len bytes) text_string y (λ s f. omega arith) e
item_by_reach n None r (head.Array len) bytes y e = absurd (none_is_some y e)
item_by_reach zero (Some read) r (head.Array len) bytes y e = absurd r
item_by_reach (suc n) (Some read) r (head.Array len) bytes y e =
    made (suc n) (list_at read len bytes) (λ xs. array (items_of xs)) y (λ xs f. omega
    (arith, items_within n xs.0 (list_reach depth n read r (suc (length bytes)) len bytes xs f))) e
item_by_reach n None r (head.Map len) bytes y e = absurd (none_is_some y e)
item_by_reach zero (Some read) r (head.Map len) bytes y e = absurd r
item_by_reach (suc n) (Some read) r (head.Map len) bytes y e =
    made (suc n) (list_at (pair_by read) len bytes) (λ ps. map (pairs_of ps)) y (λ ps f. omega (
      arith,
      pairs_within
          n ps.0 (list_reach pair_depth n (pair_by read) (pair_reach n read r) (suc (length bytes)) len bytes ps f),
    ))
    e
item_by_reach n None r (head.Tag t) bytes y e = absurd (none_is_some y e)
item_by_reach zero (Some read) r (head.Tag t) bytes y e = absurd r
item_by_reach (suc n) (Some read) r (head.Tag t) bytes y e =
    made (suc n) (start read bytes) (tagged t) y (λ x f. omega (arith, start_reach depth n read r bytes x f)) e
item_by_reach n inner r (head.Simple k) bytes y e = alone n (simple_item k) bytes y (simple_depth k) e
item_by_reach n inner r (head.Float f) bytes y e = alone n _ bytes y refl e
item_by_reach n inner r head.Break bytes y e = absurd (none_is_some y e)

item_reach : (n : ℕ) → Reaches depth n (item_within n)
unfolding item_within
item_reach zero = item_by_reach zero None tt
item_reach (suc n) = item_by_reach (suc n) (Some (item_within n)) (item_reach n)

pub given_shallow : GivenIsShallow
unfolding leading_item_at
given_shallow bytes x rest e =
    start_reach depth max_depth (item_within max_depth) (item_reach max_depth) bytes (x, rest) e
