-- Values that keep data items undecoded: what holds of their encodings, by what holds of the kept items.
use Rattle.passkey_kinds.proofs.Common.{same_tests, depth, IsOrdered, Item, AtMostOneLeadingItem, WrittenIsLeadingItem, max_depth, IsWritable, any_from, Kind, optional_from, tolerated_from, ReadIsCoherent, AllCanonical, kept_if_some, WrittenIsCanonical, Fields, read_item, record_kind, Place, record_tree, ◌≡◌, ◌<◌, ◌+◌, ◌-◌, ℕ, suc, arith, Bool, true, List, [], ◌∷◌, Option, Some, None, option_map, sym, ap, ◌≤◌, subst, nat_le, le-leb, max, leb-true, result_ok}
use Rattle.std.proofs.Common.{leb-true}
use Rattle.passkey_kinds.proofs.Keeping.{Keeps, record_keeps, not_null, ok_of}
use Rattle.passkey_kinds.proofs.Levels.{PlaceHas, EachPlace, Within, record_within, of_record as levels_of}
use Rattle.passkey_kinds.proofs.Ordered.{ascend, IsPlain, Rule, few_levels, in_order, record_ordered, of_record, canonical_of, ordered_of}

-- each of the items has the property
abbrev pub Each : (Item → Type 0) → List Item → Type 0
Each Q [] = Unit {0}
Each Q (i ∷ is) = Q i × Each Q is

abbrev pub AtMost : ℕ → List Item → Type 0
AtMost n = Each (λ i. depth i ≤ n)

-- A value is encoded with d levels around the items that it keeps, and with at most `least` levels if
-- it keeps none. A decoded value keeps items that were so many levels below its own.
pub record Around {X : Type 0} (kind : Kind X) (tree : X → Item) (kept_items : X → List Item) (d least : ℕ) : Type 0
  where
    pub levels : (n : ℕ) (x : X) → least ≤ n + d → AtMost n (kept_items x) → depth (tree x) ≤ n + d
    pub within : (n : ℕ) (x : X) → depth (tree x) ≤ n + d → AtMost n (kept_items x)
    pub order : (x : X) → Each IsOrdered (kept_items x) → IsOrdered (tree x)
    pub writable : (x : X) → IsWritable (tree x) → Each IsWritable (kept_items x)
    pub decoded : (n : ℕ) (i : Item) (x : X) → kind i ≡ Some x → depth i ≤ n + d → AtMost n (kept_items x)

-- an item that is kept
pub item_around : Around any_from (λ i. i) (λ i. i ∷ []) 0 0
item_around = record {
  levels = λ n i less h. omega (arith, h.0);
  within = λ n i h. (omega (arith, h), tt);
  order = λ i h. h.0;
  writable = λ i h. (h, tt);
  decoded = λ n i j e less. let same : i ≡ j = cc in (subst (λ k. depth k ≤ n) same (omega (arith, less)), tt);
}

-- ---- records with one place for what is kept

-- What holds of plain items of at most n levels holds of each place of a record if it holds of one,
-- and the keys ascend.
pub record OnlyAt {P : Type 0} (n : ℕ) (places : P → List Place) (key : Item) (value : P → Option Item) : Type 1 where
  pub keyed : IsPlain n key
  pub ascends : (r : P) → ascend (places r) ≡ true
  pub each : (Q : Item → Type 0) → Rule n Q → (r : P) → PlaceHas Q key (value r) → EachPlace Q (places r)
  pub this : (Q : Item → Type 0) (r : P) → EachPlace Q (places r) → PlaceHas Q key (value r)

module _ {X : Type 0} {kind : Kind X} {tree : X → Item} {kept_items : X → List Item} {d least : ℕ}
    (inner : Around kind tree kept_items d least) where
  place_has : (Q R : Item → Type 0) (key : Item) → Q key → ((x : X) → Each R (kept_items x) → Q (tree x))
      → (o : Option X) → Each R (kept_if_some kept_items o) → PlaceHas Q key (option_map tree o)
  place_has Q R key keyed each None h = tt
  place_has Q R key keyed each (Some x) h = (keyed, each x h)

  has_kept : (Q R : Item → Type 0) (key : Item) → ((x : X) → Q (tree x) → Each R (kept_items x)) → (o : Option X)
      → PlaceHas Q key (option_map tree o) → Each R (kept_if_some kept_items o)
  has_kept Q R key each None h = tt
  has_kept Q R key each (Some x) h = each x h.1

  -- what a member's value keeps, where the member is required, optional or tolerated
  pub required_keeps : (n most : ℕ) (i : Item) (x : X) → kind i ≡ Some x → depth i < most → most ≤ n + suc d
      → AtMost n (kept_items x)
  required_keeps n most i x e less few = inner.decoded n i x e (omega (arith, less, few))

  pub optional_keeps : (n most : ℕ) (i : Item) (o : Option X) → optional_from kind i ≡ Some o → depth i < most
      → most ≤ n + suc d → AtMost n (kept_if_some kept_items o)
  optional_keeps n most i None e less few = tt
  optional_keeps n most i (Some x) e less few = required_keeps n most i x (not_null kind i x e) less few

  pub tolerated_keeps : (n most : ℕ) (i : Item) (o : Option X) → tolerated_from kind i ≡ Some o → depth i < most
      → most ≤ n + suc d → AtMost n (kept_if_some kept_items o)
  tolerated_keeps n most i None e less few = tt
  tolerated_keeps n most i (Some x) e less few = required_keeps n most i x (cc) less few

  pub around : {P : Type 0} (t : Fields P) {places : P → List Place} {key : Item} {m : ℕ} (get : P → Option X)
      → OnlyAt m places key (λ r. option_map tree (get r))
      → ((n : ℕ) → AtMost n (kept_if_some kept_items (get t.blank)))
      → ((n : ℕ) (i : Item) → depth i ≤ n + suc d
      → Keeps (depth i) (λ r. AtMost n (kept_if_some kept_items (get r))) t.rows)
      → Around (record_kind t) (λ r. record_tree (places r)) (λ r. kept_if_some kept_items (get r)) (suc d)
      (suc (max m least))
  around t {places} {key} {m} get only blank keep = record {
    levels = λ n r less h.
        let few : (k : ℕ) → suc (max m least) ≤ n + suc d → (m ≤ n + d) × (least ≤ n + d) =
        λ k l. (omega (arith, l), omega (arith, l)) in
        let each = only.each (λ i. depth i ≤ n + d) (few_levels m (n + d) (few 0 less).0) r
        (place_has (λ i. depth i ≤ n + d) (λ i. depth i ≤ n) key (omega (arith, only.keyed.levels, (few 0 less).0))
        (λ x. inner.levels n x (few 0 less).1) (get r) h) in
        omega (arith, record_within (n + d) (places r) each);
    within = λ n r h.
        let each : Within (n + d) (places r) = levels_of (n + d) (places r) (omega (arith, h)) in
        has_kept (λ i. depth i ≤ n + d) (λ i. depth i ≤ n) key (inner.within n) (get r)
        (only.this (λ i. depth i ≤ n + d) r each);
    order = λ r h.
        record_ordered (places r) (only.ascends r) (only.each IsOrdered (in_order m) r
        (place_has IsOrdered IsOrdered key only.keyed.order inner.order (get r) h));
    writable = λ r w.
        has_kept IsWritable IsWritable key inner.writable (get r) (only.this IsWritable r (of_record (places r) w));
    decoded = λ n i r e less.
        record_keeps t (λ p. AtMost n (kept_if_some kept_items (get p))) i r (ok_of (read_item t i) r e)
        (λ some. blank n) (keep n i less);
  }

-- ---- messages: a decoded one has few levels again, and its encoding is canonical if what it keeps is

pub decoded_few : {P : Type 0} (t : Fields P) {tree : P → Item} {kept_items : P → List Item} {d least : ℕ}
    → Around (record_kind t) tree kept_items d least → d ≤ 256 → least ≤ 256
    → ReadIsCoherent (read_item t) (λ r. nat_le (depth (tree r)) max_depth)
decoded_few t {d = d} law near small bytes r begins =
    let keeps = law.decoded (256 - d) begins.item r (ap result_ok begins.holds) (omega (arith, begins.front.shallow)) in
    le-leb _ 256 (omega (arith, law.levels (256 - d) r (omega arith) keeps))

all_ordered : AtMostOneLeadingItem → WrittenIsLeadingItem → (is : List Item) → Each IsWritable is → AtMost 256 is
    → AllCanonical is → Each IsOrdered is
all_ordered one front [] w few h = tt
all_ordered one front (i ∷ is) w few h = (ordered_of one front i w.0 few.0 h.0, all_ordered one front is w.1 few.1 h.1)

pub canonical_around : AtMostOneLeadingItem → WrittenIsLeadingItem → {X : Type 0} {kind : Kind X} {tree : X → Item}
    {kept_items : X → List Item} {d least : ℕ} {coherent : X → Bool} → Around kind tree kept_items d least
    → ((x : X) → coherent x ≡ true → depth (tree x) ≤ 256) → WrittenIsCanonical tree coherent kept_items
canonical_around one front {tree = tree} {kept_items = kept_items} law few x w coherent canonical =
    let levels = few x coherent in
    canonical_of (tree x) w levels (law.order x (all_ordered one front (kept_items x) (law.writable x w)
    (law.within 256 x (omega (arith, levels))) canonical))

-- ---- records of which one optional member alone may have many levels

-- The record has at most n + 1 levels exactly if its member is absent or has at most n.
pub record OnlyDeep {P A : Type 0} (places : P → List Place) (tree : A → Item) (get : P → Option A) (n : ℕ) : Type 0
  where
    pub absent : (r : P) → get r ≡ None → true ≡ nat_le (depth (record_tree (places r))) (suc n)
    pub present : (r : P) (x : A) → get r ≡ Some x
        → nat_le (depth (tree x)) n ≡ nat_le (depth (record_tree (places r))) (suc n)

pub only_deep : {P A : Type 0} {places : P → List Place} {tree : A → Item} {get : P → Option A} {key : Item} {m : ℕ}
    (n : ℕ) → m ≤ n → OnlyAt m places key (λ r. option_map tree (get r)) → OnlyDeep places tree get n
only_deep {P} {A} {places} {tree} {get} {key} {m} n less only = record {
  absent = λ r is. sym (le-leb _ (suc n) (up r (subst Here (sym is) tt)));
  present = λ r x is. same_tests (nat_le (depth (tree x)) n) (nat_le (depth (record_tree (places r))) (suc n))
      (λ t. le-leb _ (suc n) (up r (subst Here (sym is)
      (omega (arith, less, only.keyed.levels), leb-true (depth (tree x)) n t))))
      (λ t. le-leb (depth (tree x)) n (subst Here is (only.this (λ i. depth i ≤ n) r
      (levels_of n (places r) (leb-true _ (suc n) t)))).1);
} where
  Here : Option A → Type 0
  Here o = PlaceHas (λ i. depth i ≤ n) key (option_map tree o)

  up : (r : P) → Here (get r) → depth (record_tree (places r)) ≤ suc n
  up r here = record_within n (places r) (only.each (λ i. depth i ≤ n) (few_levels m n less) r here)
