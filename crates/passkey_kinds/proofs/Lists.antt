-- Lists, arrays and maps, decoded and encoded element by element.
use Rattle.passkey_kinds.proofs.Common.{same_bytes, entries_empty, bytes_or_fault, ByteMap, put_each, BytesFault, some_is, string_again, item_of-Array, item_of-Map, Item, items_of, pairs_of, byte_string, array, Region, HoldsString, item_of, pair_of, CursorState, Value, IfPresent, members-pairs_of, elements-items_of, Keeping, nothing, counted, kept_of, kept_sum, in_members, in_elements, AnswersAs, bytes_from, MayGrow, number_from, Kind, each, sized_bytes_from, list_from, accepted_from, with_members, byte_map_from, entry, map_values, collected, entered, pushed, pushed_if, pushed_below, full, elements_in, members_in, numbers_in, kept_parts, Decodes, Spends, entries, Refusal, ◌≡◌, ◌∙◌, ◌<◌, ◌+◌, ℕ, suc, add-one, arith, Bool, true, false, if◌then◌else◌, List, [], ◌∷◌, ◌++◌, length, map, drop, get_or, Option, Some, None, option_map, refl, sym, ap, ◌≤◌, Result, ◌*◌, Ok, Err, ◌==◌, cond, zero, mul-le-mul_left, drop-cons, cases_lt, le-ltb, ne_eqb, lt-ltb, nat_list_cmp_total, filter_map-append, length-map, length-append, append-nil, get_or-map, slice_cmp, find, filter_map, cons_option, All, option_and_then, nat_cmp}
use Rattle.std.proofs.lemmas.List.{append_assoc}
use Rattle.std.specs.FinMap as fin
use Rattle.passkey_cbor.specs.Item as item

-- ---- lists of values, decoded from arrays

-- the same result, if the same value is wanted and memory may run out too
pub answers_from : {A M : Type 0} {wanted given : Option M} {takes may : Type 0} (view : A → M) (result : Result A
    Refusal) → given ≡ wanted → (takes → may) → AnswersAs view wanted takes result → AnswersAs view given may result
answers_from view result e f h = grind arith

pub list_array : {M : Type 0} (kind : Kind M) (xs : List Item) → list_from kind (array (items_of xs)) ≡ each kind xs
list_array kind xs = ap (each kind) (elements-items_of xs)

pub accepted_array : {M : Type 0} (kind : Kind M) (xs : List Item)
    → accepted_from kind (array (items_of xs)) ≡ Some (filter_map kind xs)
accepted_array kind xs = ap (λ ys. Some (filter_map kind ys)) (elements-items_of xs)

pub grows_array : {X : Type 0} (seen : X → Item) (xs : List X) → 0 < length xs
    → MayGrow true (array (items_of (map seen xs)))
grows_array seen [] h = absurd (omega arith)
grows_array seen (x ∷ xs) h = (refl, tt)

-- the values decoded so far, before those of the rest
pub each_more : {M : Type 0} (read : List M) (x : M) (rest : Option (List M)) → option_map (λ xs. read ++ xs)
    (option_map (λ xs. x ∷ xs) rest) ≡ option_map (λ xs. (read ++ x ∷ []) ++ xs) rest
each_more read x rest = grind (arith, append_assoc)

-- options and lists under the identity view
pub option_same : {X : Type 0} (o : Option X) → option_map (λ x. x) o ≡ o
option_same o = grind arith

pub map_same : {X : Type 0} (xs : List X) → map (λ x. x) xs ≡ xs
map_same [] = refl
map_same (x ∷ xs) = ap (λ ys. x ∷ ys) (map_same xs)

pub each_same : {X : Type 0} (o : Option (List X)) → option_map (λ xs. map (λ x. x) xs) o ≡ o
each_same o = grind (arith, map_same)

-- an option under two views, one after the other
pub option_twice : {X Y Z : Type 0} (f : Y → Z) (g : X → Y) (o : Option X)
    → option_map f (option_map g o) ≡ option_map (λ x. f (g x)) o
option_twice f g o = grind arith

pub where_twice : {X Y : Type 0} (P : Y → Type 0) (g : X → Y) (o : Option X) → IfPresent (λ x. P (g x)) o
    → IfPresent P (option_map g o)
where_twice P g o h = grind arith

-- ---- the head before the elements

pub head_before : (cost kept many to : ℕ) (a b d : CursorState) → 0 < cost → kept ≤ many → a.place < b.place
    → b.heads ≤ a.heads + 1 → b.nodes ≤ a.nodes + 0 → Spends cost kept to b d → Spends cost many to a d
head_before zero kept many to a b d some few further one none s = absurd (omega (arith, some))
head_before (suc k) kept many to a b d some few further one none s = grind (arith, mul-le-mul_left)

pub decodes_in : {A M : Type 0} {wanted given : Option M} {takes may : Type 0} (view : A → M)
    (cost kept many to : ℕ) (a b d : CursorState) (result : Result A Refusal) → given ≡ wanted → (takes → may)
    → kept ≤ many → a.place < b.place → b.heads ≤ a.heads + 1 → b.nodes ≤ a.nodes + 0
    → Decodes view wanted takes (suc cost) kept to b d result → Decodes view given may (suc cost) many to a d result
decodes_in view cost kept many to a b d result same grows few further one none r = grind (arith, answers_from, head_before)

-- ---- arrays

pub kept_nothing : {X : Type 0} (xs : List X) → kept_sum (λ x. 0) xs ≡ 0
kept_nothing [] = refl
kept_nothing (x ∷ xs) = ap (λ (n : ℕ). 0 + n) (kept_nothing xs)

pub kept_none : {X : Type 0} (o : Option (List X)) → kept_parts (λ x. 0) o ≡ 0
kept_none o = grind (arith, kept_nothing)

pub kept_elements_in : (keeps : Keeping) (i : Item)
    → kept_parts (kept_of keeps) (elements_in i) ≡ kept_of (in_elements keeps) i
kept_elements_in nothing i = kept_none (elements_in i)
kept_elements_in (counted most least) i = grind arith

pub kept_members_in : (keeps : Keeping) (i : Item)
    → kept_parts (λ m. kept_of keeps m.1) (members_in i) ≡ kept_of (in_members keeps) i
kept_members_in nothing i = kept_none (members_in i)
kept_members_in (counted most least) i = grind arith

-- the first byte costs one head alone
pub after_head : (cost kept to : ℕ) (a b d : CursorState) → a.place < b.place → b.heads ≤ a.heads + 1
    → Spends (suc cost) kept to b d → d.heads + suc cost * suc a.place ≤ suc a.heads + suc cost * to
after_head cost kept to a b d further one s = grind (arith, mul-le-mul_left)

-- an array of exactly n bytes
pub sized_array : {X : Type 0} (n : ℕ) (seen : X → Item) (xs : List X) → sized_bytes_from n
    (array (items_of (map seen xs))) ≡ (if length xs == n then each (number_from 256) (map seen xs) else None)
sized_array n seen xs = grind (arith, elements-items_of, length-map)

-- ---- arrays of bytes, decoded at a cursor

-- a region is that of one string
pub tells_one : (is_text : Bool) (r : Region) (s t : List ℕ) → HoldsString is_text r s → HoldsString is_text r t → s ≡ t
tells_one is_text r s t p q =
    let one = string_again is_text r.len s r.bytes [] p in
    let other = string_again is_text r.len t r.bytes [] q in
    grind (arith, some_is, one, other)

pub none_either : {X : Type 0} (b : Bool) (o : Option X) → o ≡ None → (if b then o else None) ≡ None
none_either b o h = grind arith

pub numbers_are : (n : ℕ) (i : Item) → ((s : List ℕ) → i ≡ item.byte_string s → ⊥) → sized_bytes_from n i ≡ numbers_in n i
numbers_are n i b = grind (arith, b)

pub never_grows : (i : Item) → MayGrow false i → ⊥
never_grows i h = grind arith

-- ---- what a tolerant list skips

values_without : {M : Type 0} (kind : Kind M) (before following : List Item) (x : Item) → kind x ≡ None
    → filter_map kind (before ++ x ∷ following) ≡ filter_map kind (before ++ following)
values_without {M} kind before following x refused = grind (arith, filter_map-append)

pub refused_is_passed_over : {M : Type 0} (kind : Kind M) (before following : List Item) (x : Item) → kind x ≡ None
    → accepted_from kind (array (items_of (before ++ x ∷ following)))
    ≡ accepted_from kind (array (items_of (before ++ following)))
refused_is_passed_over kind before following x refused = grind (arith, accepted_array, values_without)

-- ---- lists that are encoded one value after the other

-- the rest begins with the value at this index
rest_is : {X : Type 0} (xs : List X) (i : ℕ) (x : X) → x ≡ get_or xs i x → i < length xs
    → drop i xs ≡ x ∷ drop (i + 1) xs
rest_is xs i x e within = rw add-one (drop-cons xs i x within ∙ ap (λ y. y ∷ drop (suc i) xs) (sym e))

-- if all of the rest fit, so do they with this value before them
pub fits_next : {X : Type 0} (Fits : X → Type 0) (xs left rest : List X) (x : X) → left ≡ x ∷ rest → Fits x
    → (All Fits left → All Fits xs) → All Fits rest → All Fits xs
fits_next Fits xs left rest x next fits so_far others = grind arith

-- the same for the value at an index
pub fits_more : {X : Type 0} (Fits : X → Type 0) (xs : List X) (i : ℕ) (x : X) → x ≡ get_or xs i x → i < length xs
    → Fits x → (All Fits (drop i xs) → All Fits xs) → All Fits (drop (i + 1) xs) → All Fits xs
fits_more Fits xs i x e within = fits_next Fits xs (drop i xs) (drop (i + 1) xs) x (rest_is xs i x e within)

-- the encoded values and one more, before the encodings of the rest
pub written_next : {X Y : Type 0} (tree : X → Y) (xs left rest : List X) (x : X) (y : Y) (before : List Y)
    → left ≡ x ∷ rest → y ≡ tree x → before ++ map tree left ≡ map tree xs
    → (before ++ y ∷ []) ++ map tree rest ≡ map tree xs
written_next tree xs left rest x y before next same so_far = grind (arith, append_assoc)

-- the same for the value at an index
pub written_more : {X Y : Type 0} (tree : X → Y) (xs : List X) (i : ℕ) (x : X) (y : Y) (before : List Y)
    → x ≡ get_or xs i x → i < length xs → y ≡ tree x → before ++ map tree (drop i xs) ≡ map tree xs
    → (before ++ y ∷ []) ++ map tree (drop (i + 1) xs) ≡ map tree xs
written_more tree xs i x y before e within = grind (arith, written_next, rest_is)

-- ---- maps from byte strings: the views of their values, and entries that are put in

module _ {A M : Type 0} (view : A → M) where
  seen_at : (b : Bool) (x : A) (o : Option A)
      → cond b (Some (view x)) (option_map view o) ≡ option_map view (cond b (Some x) o)
  seen_at b x o = grind arith

  find-seen : (q : List ℕ) (es : List (List ℕ × A)) → fin.find (slice_cmp nat_cmp) q (map (λ e. (e.0, view e.1)) es)
      ≡ option_map view (fin.find (slice_cmp nat_cmp) q es)
  find-seen q [] = refl
  find-seen q (e ∷ es) = grind (arith, seen_at, find-seen q es)

  pub get-map_values : (m : ByteMap A) (q : List ℕ) → fin.get (map_values view m) q ≡ option_map view (fin.get m q)
  get-map_values m q =
      fin.get-from_entries nat_list_cmp_total _ q
      ∙ find-seen q (fin.entries m)
      ∙ ap (option_map view) (sym (fin.get-entries m q))

  pub map_values-empty : map_values view fin.empty ≡ fin.empty
  map_values-empty = ap (λ (es : List (List ℕ × A)). fin.from_entries (map (λ e. (e.0, view e.1)) es)) entries_empty

  pub map_values-insert : (m : ByteMap A) (k : List ℕ) (v : A)
      → map_values view (fin.insert m k v) ≡ fin.insert (map_values view m) k (view v)
  map_values-insert m k v = fin.same_map nat_list_cmp_total same_bytes _ _
      (λ q. let here = fin.get-insert nat_list_cmp_total m k v q in
      let there = fin.get-insert nat_list_cmp_total (map_values view m) k (view v) q in
      grind (arith, get-map_values, seen_at, here, there))

-- the values under two views, one after the other
pub map_values-map_values : {A B C : Type 0} (f : B → C) (g : A → B) (m : ByteMap A)
    → map_values f (map_values g m) ≡ map_values (λ x. f (g x)) m
map_values-map_values f g m = fin.same_map nat_list_cmp_total same_bytes _ _
    (λ q. grind (arith, get-map_values, option_twice))

-- a map under the identity view
pub map_values_same : {X : Type 0} (m : ByteMap X) → map_values (λ x. x) m ≡ m
map_values_same m = fin.same_map nat_list_cmp_total same_bytes _ _
    (λ q. get-map_values (λ x. x) m q ∙ option_same (fin.get m q))

module _ {M : Type 0} (kind : Kind M) where
  pub put_first : (m : ByteMap M) (k : List ℕ) (v : M) (rest : Option (List (List ℕ × M))) → option_map (put_each m)
      (option_map (λ es. (k, v) ∷ es) rest) ≡ option_map (put_each (fin.insert m k v)) rest
  put_first m k v rest = grind arith

  pub with_member : (m : ByteMap M) (x : Item × Item) (ms : List (Item × Item)) (k : List ℕ) (v : M) → bytes_from x.0
      ≡ Some k → kind x.1 ≡ Some v → with_members kind m (x ∷ ms) ≡ with_members kind (fin.insert m k v) ms
  with_member m x ms k v key value = rw (key, value) (put_first m k v (each (entry kind) ms))

  -- one more pair that is decoded
  pub read_more : {A : Type 0} (view : A → M) (pairs : List (Value × Value)) (i : ℕ) (x : Value × Value)
      (m : ByteMap A) (k : List ℕ) (v : A) → x ≡ get_or pairs i x → i < length pairs → bytes_from (item_of x.0) ≡ Some k
      → kind (item_of x.1) ≡ Some (view v) → with_members kind (map_values view m) (map pair_of (drop i pairs))
      ≡ with_members kind (map_values view (fin.insert m k v)) (map pair_of (drop (i + 1) pairs))
  read_more view pairs i x m k v e within key value =
      rw (rest_is pairs i x e within, map_values-insert view m k v)
      (with_member (map_values view m) (pair_of x) (map pair_of (drop (i + 1) pairs)) k (view v) key value)

  pub byte_map_from-map : (ms : List (Item × Item))
      → byte_map_from kind (item.map (pairs_of ms)) ≡ with_members kind fin.empty ms
  byte_map_from-map ms = ap (with_members kind fin.empty) (members-pairs_of ms)

pub grows_map : {X : Type 0} (seen : X → Item × Item) (xs : List X) → 0 < length xs
    → MayGrow true (item.map (pairs_of (map seen xs)))
grows_map seen [] h = absurd (omega arith)
grows_map seen (x ∷ xs) h = (refl, tt)

-- the element at an index, and those after it
pub mapped_at : {X Y : Type 0} (seen : X → Y) (xs : List X) (i : ℕ) (x : X) → x ≡ get_or xs i x
    → i < length xs → drop i (map seen xs) ≡ seen x ∷ drop (i + 1) (map seen xs)
mapped_at {Y = Y} seen xs i x e within =
    let long : i < length (map seen xs) = omega (arith, within, length-map xs seen) in
    let here : get_or (map seen xs) i (seen x) ≡ seen x =
    get_or-map seen xs i x (seen x) within ∙ ap seen (sym e) in
    rw add-one
    (drop-cons (map seen xs) i (seen x) long ∙ ap (λ (y : Y). y ∷ drop (suc i) (map seen xs)) here)

-- ---- elements that are decoded one after the other and put together

module _ {X V : Type 0} (next : X → V → Option V) where
  -- an element's error is the error of the list
  pub stopped : (v : V) (first : X) (rest others : List X) {from : Option V} → rest ≡ first ∷ others
      → collected next rest v ≡ from → next first v ≡ None → from ≡ None
  stopped v first rest others whole done h = grind arith

  -- after an element, the rest goes on from there
  pub gone_on : (v : V) (first : X) (rest others : List X) (w : V) → rest ≡ first ∷ others
      → next first v ≡ Some w → collected next rest v ≡ collected next others w
  gone_on v first rest others w whole h = grind arith

-- ---- what is put together, by all elements

module _ {M : Type 0} (kind : Kind M) where
  pushed_all : (is : List Item) (front : List M)
      → collected (pushed kind) is front ≡ option_map (λ xs. front ++ xs) (each kind is)
  pushed_all [] front = ap Some (sym (append-nil front))
  pushed_all (i ∷ is) front = let rest = pushed_all is in grind (arith, each_more, rest)

  pub pushed_each : (is : List Item) {none : List M} → none ≡ [] → collected (pushed kind) is none ≡ each kind is
  pushed_each is e = ap (collected (pushed kind) is) e ∙ pushed_all is [] ∙ option_same (each kind is)

  pushed_if_all : (is : List Item) (front : List M)
      → collected (pushed_if kind) is front ≡ Some (front ++ filter_map kind is)
  pushed_if_all [] front = ap Some (sym (append-nil front))
  pushed_if_all (i ∷ is) front = grind (arith, append_assoc, pushed_if_all is (front ++ cons_option (kind i) []))

  pub pushed_accepted : (is : List Item) {none : List M} → none ≡ []
      → collected (pushed_if kind) is none ≡ Some (filter_map kind is)
  pushed_accepted is e = ap (collected (pushed_if kind) is) e ∙ pushed_if_all is []

  pub entered_all : (ms : List (Item × Item)) (m : ByteMap M)
      → collected (entered kind) ms m ≡ with_members kind m ms
  entered_all [] m = refl
  entered_all (x ∷ ms) m = let rest = entered_all ms in grind (arith, put_first, rest)

-- ---- exactly n elements

module _ {M : Type 0} (n : ℕ) (kind : Kind M) where
  full_all : (is : List Item) (front : List M) → length front ≤ n
      → option_and_then (full n) (collected (pushed_below n kind) is front)
      ≡ (if length front + length is == n then option_map (λ xs. front ++ xs) (each kind is) else None)
  full_all [] front few = grind (arith, append-nil)
  full_all (i ∷ is) front few =
      let rest = full_all is in
      grind (arith, cases_lt, lt-ltb, le-ltb, ne_eqb, length-append, each_more, rest)

  pub full_each : (is : List Item) {none : List M} → none ≡ []
      → option_and_then (full n) (collected (pushed_below n kind) is none) ≡ (if length is == n then each kind is
      else None)
  full_each is e = grind (arith, full_all, option_same)

-- ---- the elements of an item, put together

pub list_in : {M : Type 0} (kind : Kind M) (i : Item) {none : List M} → none ≡ []
    → option_and_then (λ xs. collected (pushed kind) xs none) (elements_in i) ≡ list_from kind i
list_in kind i e = grind (arith, pushed_each)

pub accepted_in : {M : Type 0} (kind : Kind M) (i : Item) {none : List M} → none ≡ []
    → option_and_then (λ xs. collected (pushed_if kind) xs none) (elements_in i) ≡ accepted_from kind i
accepted_in kind i e = grind (arith, pushed_accepted)

pub map_in : {M : Type 0} (kind : Kind M) (i : Item) {none : ByteMap M} → none ≡ fin.empty
    → option_and_then (λ ms. collected (entered kind) ms none) (members_in i) ≡ byte_map_from kind i
map_in kind i e = grind (arith, entered_all)

pub filled_in : (n : ℕ) (i : Item) {none : List ℕ} → none ≡ []
    → option_and_then (full n) (option_and_then (λ xs. collected (pushed_below n (number_from 256)) xs none) (elements_in i))
    ≡ numbers_in n i
filled_in n i e = grind (arith, full_each)

-- ---- the elements of an array in memory, put together

module _ {M : Type 0} (kind : Kind M) (is : List Item) {none : List M} (empty : none ≡ []) where
  pub list_gathered : list_from kind (array (items_of is)) ≡ collected (pushed kind) is none
  list_gathered = list_array kind is ∙ sym (pushed_each kind is empty)

  pub accepted_gathered : accepted_from kind (array (items_of is)) ≡ collected (pushed_if kind) is none
  accepted_gathered = accepted_array kind is ∙ sym (pushed_accepted kind is empty)

pub bytes_gathered : (is : List Item) {none : List ℕ} → none ≡ []
    → bytes_from (array (items_of is)) ≡ collected (pushed (number_from 256)) is none
bytes_gathered is empty = ap (each (number_from 256)) (elements-items_of is) ∙ sym (pushed_each (number_from 256) is empty)

pub sized_gathered : {X : Type 0} (n : ℕ) (seen : X → Item) (xs : List X) {none : List ℕ} → none ≡ []
    → (if length xs == n then each (number_from 256) (map seen xs) else None)
    ≡ option_and_then (full n) (collected (pushed_below n (number_from 256)) (map seen xs) none)
sized_gathered n seen xs empty = ap (λ (k : ℕ). if k == n then each (number_from 256) (map seen xs) else None)
    (sym (length-map xs seen)) ∙ sym (full_each n (number_from 256) (map seen xs) empty)

-- ---- the bytes that texts decode to

pub text_read : (o : Option (List ℕ)) (b : List ℕ) → bytes_or_fault o ≡ Ok b → o ≡ Some b
text_read o b e = grind arith

pub text_refused : (o : Option (List ℕ)) (why : BytesFault) → bytes_or_fault o ≡ Err why → o ≡ None
text_refused o why e = grind arith

-- ---- what the prover needs for arrays and maps in memory

pub ruleset arrays = (
  item_of-Array,
  item_of-Map,
  answers_from,
  list_gathered,
  accepted_gathered,
  bytes_gathered,
  sized_array,
  grows_array,
  byte_map_from-map,
  grows_map,
)
