-- Maps from byte strings, with their entries in CTAP2's order.
use Rattle.passkey_kinds.proofs.Common.{All, AllByRecursion, nat_cmp, is_lt, ◌≡◌, ◌⊎◌, ℕ, ◌<◌, ◌≤◌, Bool, true, false, cond, List, [], ◌∷◌, length, map, refl, sym, ap, ◌∙◌, arith, inl, inr, nat_tests, rules, ◌+◌, ◌++◌, slice_cmp, length-append, byte_string, short_first, shortest_head, written, eq_by_cmp, Ordering, Less, ◌&&◌, Option, Some, None, option_map, nat_list_cmp_total, ByteMap, put_each, same_bytes, AscendFrom, Ascend, Item, pairs_of, entry_tree, T, key_type, IsBefore, nat_cmp_is, bytes_decides, texts_ties, below_all, is_sorted, is_eq, Equal, map_values, by_length, length-map, option_or, get_or, get_or-map, slice_get-get_or}
use Rattle.std.proofs.lemmas.Cmp.{nat_cmp_total, on_total, then_total, tied_itself, eq_by_cmp_equiv}
use Rattle.std.proofs.lemmas.List.Elements.{recursion_from_All}
use Rattle.std.proofs.lemmas.List.Sorted.{All-permutation, IsPermutation-sym, IsPermutation-map}
use Rattle.std.proofs.lemmas.Map.Entries.{lookup_from_place}
use Rattle.std.proofs.lemmas.Map.Keys.{IsDistinct-IsPermutation, apart_from_distinct, sorted_from_all_adjacent}
use Rattle.std.specs.Cmp.{IsTotalOrder}
use Rattle.std.specs.List.{IsDistinct}
use Rattle.std.specs.List.Sorted.{IsPermutation, IsSortedBy, IsStrictlySortedBy}
use Rattle.std.specs.Map.{keys_of}
use Rattle.std.specs.Ordering.{ordering_reverse, ordering_then}
use Rattle.passkey_kinds.proofs.Lists.{get-map_values}
use Rattle.std.specs.FinMap as fin

-- ---- the order of the keys

by_length_total : IsTotalOrder by_length
by_length_total = then_total (on_total length nat_cmp_total) nat_list_cmp_total

-- two keys are tied in this order exactly if they are in that of their bytes
alike : (a b : List ℕ) → eq_by_cmp by_length a b ≡ eq_by_cmp (slice_cmp nat_cmp) a b
alike a b =
    let same = bytes_decides a b in
    let tied = texts_ties a b in
    let own = tied_itself by_length_total a in
    grind (arith, same, tied, own)

same_key : (a b : List ℕ) → eq_by_cmp by_length a b ≡ true → a ≡ b
same_key a b h = (bytes_decides a b).0 (texts_ties a b ∙ sym (alike a b) ∙ h)

both : (a b : Bool) → T (a && b) → T a × T b
both true b h = (tt, h)
both false b h = absurd h

less_is : (o : Ordering) → T (is_lt o) → o ≡ Less
less_is Less h = refl
less_is _ h = absurd h

joined : (a b : Bool) → T a → T b → T (a && b)
joined true b g h = h
joined false b g h = absurd g

rises : (o p : Ordering) → o ≡ ordering_reverse p → is_lt p ≡ false → is_eq o ≡ false → o ≡ Less
rises o p e up apart = grind arith

pub sorted-map : {X Y : Type 0} (f : X → Y) (lt : Y → Y → Bool) (xs : List X) → IsSortedBy (λ x y. lt (f x) (f y)) xs
    → IsSortedBy lt (map f xs)
sorted-map f lt [] up k d low less = absurd (omega (arith, less))
sorted-map f lt (x ∷ xs) up k d low less =
    let within : k + 1 < length (x ∷ xs) = omega (arith, less, length-map (x ∷ xs) f) in
    rw (get_or-map f (x ∷ xs) (k + 1) x d within, get_or-map f (x ∷ xs) k x d (omega (arith, within)))
    (up k x low within)

module _ {A : Type 0} where
  find-alike : (q : List ℕ) (es : List (List ℕ × A)) → fin.find by_length q es ≡ fin.find (slice_cmp nat_cmp) q es
  find-alike q [] = refl
  find-alike q (e ∷ es) = λ i. cond (alike q e.0 i) (Some e.1) (find-alike q es i)

  -- ---- sorted entries have distinct keys, and entries with distinct keys have one order

  apart_from : (k : List ℕ) (es : List (List ℕ × A)) → T (below_all (slice_cmp nat_cmp) k es)
      → AllByRecursion (λ q. eq_by_cmp by_length k q ≡ false) (keys_of es)
  apart_from k [] h = tt
  apart_from k (e ∷ es) h =
      let p = both _ _ h in
      (alike k e.0 ∙ ap is_eq (less_is (slice_cmp nat_cmp k e.0) p.0), apart_from k es p.1)

  distinct : (es : List (List ℕ × A)) → T (is_sorted (slice_cmp nat_cmp) es)
      → IsDistinct (eq_by_cmp by_length) (keys_of es)
  unfolding IsDistinct
  distinct [] h = tt
  distinct (e ∷ es) h = let p = both _ _ h in (apart_from e.0 es p.0, distinct es p.1)

  below : (k : List ℕ) (es : List (List ℕ × A)) → AllByRecursion (λ q. by_length k q ≡ Less) (keys_of es)
      → T (below_all by_length k es)
  below k [] h = tt
  below k (e ∷ es) h = rw h.0 (below k es h.1)

  sorted : (es : List (List ℕ × A)) → IsStrictlySortedBy by_length (keys_of es) → T (is_sorted by_length es)
  unfolding IsStrictlySortedBy
  sorted [] h = tt
  sorted (e ∷ es) h = joined _ _ (below e.0 es h.0) (sorted es h.1)

  -- each entry's value is found under its key
  found : (es : List (List ℕ × A)) → IsDistinct (eq_by_cmp by_length) (keys_of es)
      → All (λ e. fin.find by_length e.0 es ≡ Some e.1) es
  found es apart = λ k d less.
      lookup_from_place (eq_by_cmp_equiv by_length_total) es k _ _ apart (slice_get-get_or es k d less)

  still_found : (es fs : List (List ℕ × A)) → AllByRecursion (λ e. fin.find by_length e.0 fs ≡ Some e.1) es
      → (q : List ℕ) (v : A) → fin.find by_length q es ≡ Some v → fin.find by_length q fs ≡ Some v
  still_found [] fs all q v h = absurd cc
  still_found (e ∷ es) fs all q v h =
      let first : fin.find by_length e.0 fs ≡ Some e.1 = all.0 in
      let others = still_found es fs all.1 q v in
      let same = same_key q e.0 in
      grind (arith, first, others, same)

  agree : (o p : Option A) → ((v : A) → o ≡ Some v → p ≡ Some v) → ((v : A) → p ≡ Some v → o ≡ Some v) → o ≡ p
  agree o p there back = grind arith

  -- the entries of a map, sorted by their keys in this order
  pub short_first_is : (es fs : List (List ℕ × A)) → T (is_sorted (slice_cmp nat_cmp) es) → IsPermutation es fs
      → IsSortedBy (λ e f. is_lt (by_length e.0 f.0)) fs → fs ≡ short_first es
  short_first_is es fs given moved up =
      let ks = keys_of fs in
      let In : List (List ℕ × A) → List ℕ × A → Type 0 = λ gs e. fin.find by_length e.0 gs ≡ Some e.1 in
      let apart = IsDistinct-IsPermutation _ (eq_by_cmp_equiv by_length_total).symm _ ks
      (IsPermutation-map (λ e. e.0) es fs moved) (distinct es given) in
      let up_keys = sorted-map (λ (e : List ℕ × A). e.0) (λ j k. is_lt (by_length j k)) fs up in
      let up_strictly = sorted fs (sorted_from_all_adjacent by_length_total ks [] (λ k less.
      rises (by_length (get_or ks k []) (get_or ks (k + 1) [])) (by_length (get_or ks (k + 1) []) (get_or ks k []))
      (by_length_total.antisymm (get_or ks k []) (get_or ks (k + 1) [])) (up_keys k [] (omega arith) less)
      (apart_from_distinct _ ks k (k + 1) [] apart (omega arith) less))) in
      let here = recursion_from_All (In es) fs (All-permutation (In es) es fs moved (found es (distinct es given))) in
      let there = recursion_from_All (In fs) es
      (All-permutation (In fs) fs es (IsPermutation-sym es fs moved) (found fs apart)) in
      sym (fin.entries-from_sorted by_length fs up_strictly)
      ∙ ap fin.entries (fin.same_map by_length_total (λ j k e. same_key j k (ap is_eq e)) _ _
      (λ q. fin.get-from_sorted by_length fs q up_strictly
      ∙ agree _ _ (still_found fs es here q) (still_found es fs there q)
      ∙ sym (fin.get-from_entries by_length_total es q)))

  -- what holds of each value
  put-each : (P : A → Type 0) (k : List ℕ) (v : A) (es : List (List ℕ × A)) → P v → AllByRecursion (λ e. P e.1) es
      → AllByRecursion (λ e. P e.1) (fin.put by_length k v es)
  put-each P k v [] h all = (h, tt)
  put-each P k v (e ∷ es) h all = grind (arith, put-each P k v es h all.1)

  none_each : (P : A → Type 0) (es : List (List ℕ × A)) → length es ≡ 0 → AllByRecursion (λ e. P e.1) es
  none_each P [] none = tt
  none_each P (e ∷ es) none = absurd (omega arith)

  pub short_first-each : (P : A → Type 0) (es : List (List ℕ × A)) → AllByRecursion (λ e. P e.1) es
      → AllByRecursion (λ e. P e.1) (short_first es)
  short_first-each P [] all = none_each P _ (sym (fin.len-entries _) ∙ fin.len-empty by_length A)
  short_first-each P (e ∷ es) all = rw (fin.entries-insert by_length_total (fin.from_entries es) e.0 e.1)
      (put-each P e.0 e.1 (short_first es) all.0 (short_first-each P es all.1))

-- ---- byte strings as map keys: their encodings are in CTAP2's order if the shorter key comes first,
-- and of two keys with the same length the lower one

-- the shortest head has an initial byte with its major type, and this many bytes after it
head_type : (n : ℕ) (s : List ℕ) → key_type (shortest_head 2 n ++ s) ≡ 2
unfolding shortest_head
head_type n s = grind (arith, nat_tests)

head_rises : (n m : ℕ) → n ≤ m → length (shortest_head 2 n) ≤ length (shortest_head 2 m)
unfolding shortest_head
head_rises n m le = grind (arith, nat_tests)

encoded_long : (s : List ℕ) → length (written (byte_string s)) ≡ length (shortest_head 2 (length s)) + length s
encoded_long s = length-append (shortest_head 2 (length s)) s

-- a common prefix doesn't matter
after_common : (t a b : List ℕ) → slice_cmp nat_cmp (t ++ a) (t ++ b) ≡ slice_cmp nat_cmp a b
after_common [] a b = refl
after_common (c ∷ t) a b = rw (sym (nat_cmp_is c c Equal refl)) (after_common t a b)

types_tie : (a b : List ℕ)
    → nat_cmp (key_type (written (byte_string a))) (key_type (written (byte_string b))) ≡ Equal
types_tie a b = sym (nat_cmp_is _ _ Equal (head_type (length a) a ∙ sym (head_type (length b) b)))

order_is : (n m : ℕ) (o : Ordering) → ordering_then (nat_cmp n m) o ≡ Less → (n < m) ⊎ ((n ≡ m) × (o ≡ Less))
order_is n m o h = grind (arith, nat_tests, inl, inr)

byte_keys : (a b : List ℕ) → (length a < length b) ⊎ ((length a ≡ length b) × (slice_cmp nat_cmp a b ≡ Less))
    → IsBefore (written (byte_string a)) (written (byte_string b))
byte_keys a b (inl less) = search (rules, encoded_long, head_rises, types_tie)
byte_keys a b (inr tie) = search (rules, encoded_long, types_tie, after_common)

module _ {A : Type 0} (tree : A → Item) where
  ascend_after : (k : List ℕ) (es : List (List ℕ × A)) → T (below_all by_length k es) → T (is_sorted by_length es)
      → AscendFrom (Some (written (byte_string k))) (pairs_of (map (entry_tree tree) es))
  ascend_after k [] below up = tt
  ascend_after k (e ∷ es) below up =
      let p = both _ _ below in
      let q = both _ _ up in
      (byte_keys k e.0 (order_is _ _ _ (less_is _ p.0)), ascend_after e.0 es q.0 q.1)

  ascend : (es : List (List ℕ × A)) → T (is_sorted by_length es) → Ascend (pairs_of (map (entry_tree tree) es))
  ascend [] up = tt
  ascend (e ∷ es) up = let q = both _ _ up in (tt, ascend_after e.0 es q.0 q.1)

  -- the keys of an encoded map ascend
  pub entries_ascend : (m : ByteMap A) → Ascend (pairs_of (map (entry_tree tree) (short_first (fin.entries m))))
  entries_ascend m = ascend _ (fin.entries_sorted (fin.from_entries (fin.entries m)))

-- ---- the order in which entries are put into a map doesn't matter

module _ {A M : Type 0} (seen : A → M) where
  absent : (k : List ℕ) (es : List (List ℕ × A)) → T (below_all by_length k es) → fin.find by_length k es ≡ None
  absent k [] below = refl
  absent k (e ∷ es) lower = let p = both _ _ lower in rw (less_is (by_length k e.0) p.0) (absent k es p.1)

  absent_at : (q k : List ℕ) (es : List (List ℕ × A)) → T (below_all by_length k es) → eq_by_cmp by_length q k ≡ true
      → fin.find by_length q es ≡ None
  absent_at q k es lower same = rw (same_key q k same) (absent k es lower)

  get-put_each : (m : ByteMap M) (es : List (List ℕ × A)) → T (is_sorted by_length es) → (q : List ℕ)
      → fin.get (put_each m (map (λ e. (e.0, seen e.1)) es)) q
      ≡ option_or (option_map seen (fin.find by_length q es)) (fin.get m q)
  get-put_each m [] up q = refl
  get-put_each m (e ∷ es) up q =
      let p = both _ _ up in
      let rest = get-put_each (fin.insert m e.0 (seen e.1)) es p.1 q in
      let first = fin.get-insert nat_list_cmp_total m e.0 (seen e.1) q in
      let none = absent_at q e.0 es p.0 in
      grind (arith, alike, rest, first, none)

  pub short_first-placed : (m : ByteMap A)
      → put_each fin.empty (map (λ e. (e.0, seen e.1)) (short_first (fin.entries m))) ≡ map_values seen m
  short_first-placed m =
      let n : fin.FinMap by_length A = fin.from_entries (fin.entries m) in
      fin.same_map nat_list_cmp_total same_bytes _ _
      (λ q. let put = get-put_each fin.empty (fin.entries n) (fin.entries_sorted n) q in
      let none = fin.get-empty {X = M} (slice_cmp nat_cmp) q in
      let same = sym (fin.get-entries n q) ∙ fin.get-from_entries by_length_total (fin.entries m) q
      ∙ find-alike q (fin.entries m) ∙ sym (fin.get-entries m q) in
      grind (arith, get-map_values, put, none, same))
