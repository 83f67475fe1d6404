-- What is blamed is inside the item that is refused.
use Rattle.std.proofs.Common.{◌≡◌, ◌∙◌, ℕ, suc, ◌+◌, ◌==◌, Bool, true, false, if◌then◌else◌, List, [], ◌∷◌, Option, Some, None, is_some, option_map, slice_get, unwrap_or, refl, subst, ap, add-zero, arith}
use Rattle.std.specs.Prelude.{IfSome}
use Rattle.std.specs.Option.{option_and_then}
use Rattle.passkey_explain.specs.Blame.{Blame, Step, wants, at_fault, under, element, member, value, key, IsIn, item_along, part_at}
use Rattle.passkey_explain.specs.Blaming.{blamed, blamed_row, blame_elements, list_blame, blame_entries, map_blame, blame_value, blame_one, blame_missing, blame_from, seen_with, record_blame, name_at, accepts_in}
use Rattle.passkey_kinds.specs.Base.{Item, array, elements, members}
use Rattle.passkey_kinds.specs.Kind.{bytes_from}
use Rattle.passkey_kinds.specs.Record.{Members, Naming, row, unknown, wrong, names, first_missing}
use Rattle.passkey_kinds.specs.Shape.{Entry, Shape, leaf, record_of, Rows, no_rows, entries_in}
use Rattle.passkey_kinds.specs.Shape as shape
use Rattle.passkey_kinds.specs.declared.fault.Fault.TheVariants.{BadKey, Repeated}
use Rattle.passkey_kinds.specs.declared.wanted.Wanted.TheVariants as wanted
use Rattle.passkey_cbor.specs.Item as item

either : (i : Item) (b : Bool) (p q : Blame) → IsIn i p → IsIn i q → IsIn i (if b then p else q)
either i true p q hp hq = hp
either i false p q hp hq = hq

-- what is inside a part is inside the item
within : (i part : Item) (s : Step) (b : Blame) → part_at s i ≡ Some part → IsIn part b → IsIn i (under s b)
within i part s b is h = ap (λ o. is_some (option_and_then (item_along b.path) o)) is ∙ h

-- these are what is left of all from index n on
abbrev pub AreLeft : {X : Type 0} → List X → ℕ → List X → Type 0
AreLeft all n xs = (k : ℕ) → slice_get all (n + k) ≡ slice_get xs k

pub first_left : {X : Type 0} (all : List X) (n : ℕ) (x : X) (xs : List X) → AreLeft all n (x ∷ xs)
    → slice_get all n ≡ Some x
first_left all n x xs left = subst (λ (j : ℕ). slice_get all j ≡ Some x) (add-zero n) (left 0)

pub others_left : {X : Type 0} (all : List X) (n : ℕ) (x : X) (xs : List X) → AreLeft all n (x ∷ xs)
    → AreLeft all (suc n) xs
others_left all n x xs left = λ k.
    let same : n + suc k ≡ suc n + k = omega arith in
    subst (λ (j : ℕ). slice_get all j ≡ slice_get xs k) same (left (suc k))

pub all_left : {X : Type 0} (all : List X) → AreLeft all 0 all
all_left {X} all = λ k. let same : 0 + k ≡ k = omega arith in ap (slice_get all) same

-- ---- lists and maps

module _ (accepts : Item → Bool) (of : Item → Blame) (inside_of : (i : Item) → IsIn i (of i)) where
  elements_inside : (is : item.Items) (n : ℕ) (xs : List Item) → AreLeft (elements is) n xs
      → IsIn (array is) (blame_elements accepts of n xs)
  elements_inside is n [] left = refl
  elements_inside is n (x ∷ xs) left =
      either (array is) (accepts x) (blame_elements accepts of (suc n) xs) (under (element n) (of x))
      (elements_inside is (suc n) xs (others_left (elements is) n x xs left))
      (within (array is) x (element n) (of x) (first_left (elements is) n x xs left) (inside_of x))

  list_inside : (i : Item) → IsIn i (list_blame accepts of i)
  unfolding list_blame
  list_inside (array is) = elements_inside is 0 (elements is) (all_left (elements is))
  list_inside _ = refl

  entries_inside : (ps : item.Pairs) (n : ℕ) (ms : Members) → AreLeft (members ps) n ms
      → IsIn (item.map ps) (blame_entries accepts of n ms)
  entries_inside ps n [] left = refl
  entries_inside ps n (m ∷ ms) left =
      let i = item.map ps in
      let at = first_left (members ps) n m ms left in
      let v = under (value n) (of m.1) in
      let later = blame_entries accepts of (suc n) ms in
      either i (is_some (bytes_from m.0)) (if accepts m.1 then later else v) (under (key n) (wants wanted.Bytes))
      (either i (accepts m.1) later v (entries_inside ps (suc n) ms (others_left (members ps) n m ms left))
      (within i m.1 (value n) (of m.1) (ap (option_map (λ (p : Item × Item). p.1)) at) (inside_of m.1)))
      (within i m.0 (key n) (wants wanted.Bytes) (ap (option_map (λ (p : Item × Item). p.0)) at) refl)

  map_inside : (i : Item) → IsIn i (map_blame accepts of i)
  unfolding map_blame
  map_inside (item.map ps) = entries_inside ps 0 (members ps) (all_left (members ps))
  map_inside _ = refl

-- ---- records

unwrapped : (i : Item) (o : Option Blame) (b : Blame) → IfSome o (IsIn i) → IsIn i b → IsIn i (unwrap_or o b)
unwrapped i (Some a) b ha hb = ha
unwrapped i None b ha hb = hb

some_if : (i : Item) (b : Bool) (o p : Option Blame) → IfSome o (IsIn i) → IfSome p (IsIn i)
    → IfSome (if b then o else p) (IsIn i)
some_if i true o p ho hp = ho
some_if i false o p ho hp = hp

mapped : (i part : Item) (s : Step) (o : Option Blame) → part_at s i ≡ Some part → IfSome o (IsIn part)
    → IfSome (option_map (under s) o) (IsIn i)
mapped i part s (Some b) at h = within i part s b at h
mapped i part s None at h = tt

missing_inside : (i : Item) (o : Option ℕ) → IsIn i (blame_missing o)
missing_inside i (Some n) = refl
missing_inside i None = refl

module _ (es : List Entry) (accepts : ℕ → Item → Bool) (of : ℕ → Item → Blame)
    (inside_of : (n : ℕ) (i : Item) → IsIn i (of n i)) where
  one_inside : (ps : item.Pairs) (n : ℕ) (naming : Naming) (m : Item × Item) (seen : ℕ → Bool)
      → slice_get (members ps) n ≡ Some m
      → IfSome (blame_one es accepts of n naming m.1 seen) (IsIn (item.map ps))
  one_inside ps n wrong m seen at =
      within (item.map ps) m.0 (key n) (at_fault BadKey) (ap (option_map (λ (p : Item × Item). p.0)) at) refl
  one_inside ps n unknown m seen at = tt
  one_inside ps n (row k) m seen at =
      let i = item.map ps in
      let s = member n k (name_at es k) in
      let o = blame_value es accepts of k m.1 in
      some_if i (seen k) (Some (under (key n) (at_fault (Repeated k)))) (option_map (under s) o)
      (within i m.0 (key n) (at_fault (Repeated k)) (ap (option_map (λ (p : Item × Item). p.0)) at) refl)
      (mapped i m.1 s o (ap (option_map (λ (p : Item × Item). p.1)) at)
      (some_if m.1 (accepts k m.1) None (Some (of k m.1)) tt (inside_of k m.1)))

  pairs_inside : (is_numbered : Bool) (ps : item.Pairs) (n : ℕ) (ms : Members) (seen : ℕ → Bool) → AreLeft (members ps) n ms
      → IsIn (item.map ps) (blame_from es accepts of is_numbered n ms seen)
  pairs_inside is_numbered ps n [] seen left = missing_inside (item.map ps) (first_missing es seen)
  pairs_inside is_numbered ps n (m ∷ ms) seen left =
      let naming = names is_numbered es m.0 in
      unwrapped (item.map ps) (blame_one es accepts of n naming m.1 seen)
      (blame_from es accepts of is_numbered (suc n) ms (seen_with naming seen))
      (one_inside ps n naming m seen (first_left (members ps) n m ms left))
      (pairs_inside is_numbered ps (suc n) ms (seen_with naming seen) (others_left (members ps) n m ms left))

  record_inside : (is_numbered : Bool) (i : Item) → IsIn i (record_blame es accepts of is_numbered i)
  unfolding record_blame
  record_inside is_numbered (item.map ps) = pairs_inside is_numbered ps 0 (members ps) (λ n. false) (all_left (members ps))
  record_inside is_numbered _ = refl

mutual
  pub inside : (s : Shape) (i : Item) → IsIn i (blamed s i)
  inside (leaf w) i = refl
  inside (shape.list accepts s) i = list_inside accepts (blamed s) (inside s) i
  inside (shape.map accepts s) i = map_inside accepts (blamed s) (inside s) i
  inside (record_of is_numbered rows) i =
      record_inside (entries_in rows) (accepts_in rows) (blamed_row rows) (row_inside rows) is_numbered i
  inside (shape.tolerant accepts s) i = inside s i

  row_inside : (rs : Rows) (n : ℕ) (i : Item) → IsIn i (blamed_row rs n i)
  row_inside no_rows n i = refl
  row_inside (shape.row e accepts s rs) n i = elim (e.number == n)
      as (λ b. IsIn i (if b then blamed s i else blamed_row rs n i)) [ true ↦ inside s i | false ↦ row_inside rs n i ]
