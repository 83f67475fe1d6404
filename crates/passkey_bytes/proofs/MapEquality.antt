-- Two finite maps are equal exactly if the ordered trees that represent them are.
use Rattle.std.specs.BTreeMap.{BTreeMap, IsOrdered, is_at}
use Rattle.std.specs.Cmp.{Equal-is, IsTotalOrder, alike_right, eq_by_cmp_equiv, tied_itself}
use Rattle.std.specs.Cmp.Lexicographic.{pointwise, slice_cmp}
use Rattle.std.specs.FinMap as fin
use Rattle.std.specs.List.Sorted.{IsStrictlySortedBy}
use Rattle.std.specs.Map.{keys_of, lookup}
use Rattle.std.specs.Option.{option_eq}
use Rattle.std.specs.Ordering.{eq_by_cmp, is_eq, nat_cmp, ordering_reverse}
use Rattle.std.specs.declared.cmp.Ordering.{Ordering}
use Rattle.std.specs.declared.cmp.Ordering.TheVariants.{Less, Equal, Greater}
use Rattle.std.proofs.Common.{◌≡◌, ℕ, Bool, true, false, ◌&&◌, cond, List, [], ◌∷◌, refl, sym, ap, subst, ◌∙◌, inl, inr, ◌⊎◌, ⊎_elim, Option, Some, None}
use Rattle.std.proofs.lemmas.Bool.{and_from, and_parts, cases_Bool, false≢true}
use Rattle.std.proofs.lemmas.Map.{lookup-none}
use Rattle.std.proofs.lemmas.Map.Entries.{lookup_head, lookup_tail, none_below_head, none_past_head}
use Rattle.std.proofs.lemmas.Map.Keys.{IsDistinct-from_sorted, sorted_tail}
use Rattle.passkey_bytes.specs.Map.{agree, map_of, maps_eq}
use Rattle.passkey_bytes.specs.SameMaps.{agree-from_maps_eq, maps_eq-from_agree, same_tests}
use Rattle.passkey_bytes.proofs.Maps.{get-map_of, get_or_key}

-- ---- sorted entries: two lists are equal exactly if looking up each key gives the same in both

module _ {K V : Type 0} {cmp : K → K → Ordering} (o : IsTotalOrder cmp) (E : V → V → Bool) where
  abbrev found : K → List (K × V) → Option V
  found q es = lookup (is_at (cmp q)) es

  abbrev FindAlike : List (K × V) → List (K × V) → Type 0
  FindAlike es fs = (q : K) → option_eq E (found q es) (found q fs) ≡ true

  abbrev same_entry : K × V → K × V → Bool
  same_entry e f = eq_by_cmp cmp e.0 f.0 && E e.1 f.1

  alike_first : (b : Bool) (x y : V) (p q : Option V) → E x y ≡ true → option_eq E p q ≡ true
      → option_eq E (cond b (Some x) p) (cond b (Some y) q) ≡ true
  alike_first true x y p q first rest = first
  alike_first false x y p q first rest = rest

  find_alike : (es fs : List (K × V)) → pointwise same_entry es fs ≡ true → FindAlike es fs
  find_alike [] [] equal q = refl
  find_alike [] (f ∷ fs) equal q = absurd (false≢true equal)
  find_alike (e ∷ es) [] equal q = absurd (false≢true equal)
  find_alike (e ∷ es) (f ∷ fs) equal q =
      let parts = and_parts (same_entry e f) (pointwise same_entry es fs) equal in
      let heads = and_parts (eq_by_cmp cmp e.0 f.0) (E e.1 f.1) parts.0 in
      let tests : eq_by_cmp cmp q e.0 ≡ eq_by_cmp cmp q f.0 =
      ap is_eq (alike_right o e.0 f.0 q ((Equal-is (cmp e.0 f.0)).0 heads.0)) in
      let P : Bool → Type 0 = λ b. option_eq E (cond (eq_by_cmp cmp q e.0) (Some e.1) (found q es))
      (cond b (Some f.1) (found q fs)) ≡ true in
      subst P tests
      (alike_first (eq_by_cmp cmp q e.0) e.1 f.1 (found q es) (found q fs) heads.1 (find_alike es fs parts.1 q))

  at_head : (e : K × V) (es : List (K × V)) → found e.0 (e ∷ es) ≡ Some e.1
  at_head e es = lookup_head (is_at (cmp e.0)) e es (ap is_eq (tied_itself o e.0))

  below : (q : K) (e : K × V) (es : List (K × V)) → IsStrictlySortedBy cmp (keys_of (e ∷ es)) → cmp q e.0 ≡ Less
      → found q (e ∷ es) ≡ None
  below q e es sorted less = lookup-none (is_at (cmp q)) (e ∷ es) (none_below_head o q e es sorted less)

  past : (q : K) (e : K × V) (es : List (K × V)) → IsStrictlySortedBy cmp (keys_of (e ∷ es))
      → eq_by_cmp cmp q e.0 ≡ true → found q es ≡ None
  past q e es sorted tied = lookup-none (is_at (cmp q)) es
      (none_past_head (eq_by_cmp_equiv o) q e es (IsDistinct-from_sorted cmp (keys_of (e ∷ es)) sorted) tied)

  left_alone : (x : V) (p q : Option V) → p ≡ Some x → q ≡ None → option_eq E p q ≡ true → ⊥
  left_alone x p q some none alike = false≢true (sym (λ i. option_eq E (some i) (none i)) ∙ alike)

  right_alone : (x : V) (p q : Option V) → p ≡ None → q ≡ Some x → option_eq E p q ≡ true → ⊥
  right_alone x p q none some alike = false≢true (sym (λ i. option_eq E (none i) (some i)) ∙ alike)

  module _ (e f : K × V) (es fs : List (K × V)) (s : IsStrictlySortedBy cmp (keys_of (e ∷ es)))
      (t : IsStrictlySortedBy cmp (keys_of (f ∷ fs))) (alike : FindAlike (e ∷ es) (f ∷ fs)) where
    heads_by : (r : Ordering) → cmp e.0 f.0 ≡ r → cmp e.0 f.0 ≡ Equal
    heads_by Less is = absurd
        (left_alone e.1 (found e.0 (e ∷ es)) (found e.0 (f ∷ fs)) (at_head e es) (below e.0 f fs t is) (alike e.0))
    heads_by Equal is = is
    heads_by Greater is = absurd (right_alone f.1 (found f.0 (e ∷ es)) (found f.0 (f ∷ fs))
        (below f.0 e es s (o.antisymm f.0 e.0 ∙ ap ordering_reverse is)) (at_head f fs) (alike f.0))

    heads : cmp e.0 f.0 ≡ Equal
    heads = heads_by (cmp e.0 f.0) refl

    values : E e.1 f.1 ≡ true
    values =
        let other : found e.0 (f ∷ fs) ≡ Some f.1 = lookup_head (is_at (cmp e.0)) f fs (ap is_eq heads) in
        sym (λ i. option_eq E (at_head e es i) (other i)) ∙ alike e.0

    tests : (q : K) → eq_by_cmp cmp q f.0 ≡ eq_by_cmp cmp q e.0
    tests q = sym (ap is_eq (alike_right o e.0 f.0 q heads))

    tails : FindAlike es fs
    tails q =
        ⊎_elim
        (λ tied i. option_eq E (past q e es s tied i) (past q f fs t (tests q ∙ tied) i))
        (λ apart. sym (λ i. option_eq E (lookup_tail (is_at (cmp q)) e es apart i)
        (lookup_tail (is_at (cmp q)) f fs (tests q ∙ apart) i)) ∙ alike q)
        (cases_Bool (eq_by_cmp cmp q e.0))

  equal_lists : (es fs : List (K × V)) → IsStrictlySortedBy cmp (keys_of es) → IsStrictlySortedBy cmp (keys_of fs)
      → FindAlike es fs → pointwise same_entry es fs ≡ true
  equal_lists [] [] s t alike = refl
  equal_lists [] (f ∷ fs) s t alike =
      absurd (right_alone f.1 None (found f.0 (f ∷ fs)) refl (at_head f fs) (alike f.0))
  equal_lists (e ∷ es) [] s t alike =
      absurd (left_alone e.1 (found e.0 (e ∷ es)) None (at_head e es) refl (alike e.0))
  equal_lists (e ∷ es) (f ∷ fs) s t alike =
      let first : same_entry e f ≡ true = and_from (eq_by_cmp cmp e.0 f.0) (E e.1 f.1)
      (ap is_eq (heads e f es fs s t alike)) (values e f es fs s t alike) in
      let rest = equal_lists es fs (sorted_tail cmp e.0 (keys_of es) s) (sorted_tail cmp f.0 (keys_of fs) t)
      (tails e f es fs s t alike) in
      and_from (same_entry e f) (pointwise same_entry es fs) first rest

-- ---- the same for maps

module _ {K V : Type 0} (bytes : K → List ℕ) {cmp : K → K → Ordering} (same : (a b : K) → cmp a b
    ≡ slice_cmp nat_cmp (bytes a) (bytes b)) (o : IsTotalOrder cmp) (E : V → V → Bool) (m n : BTreeMap K V) where
  abbrev Agree : List ℕ → Type 0
  Agree q = agree E (map_of bytes m.entries) (map_of bytes n.entries) q ≡ true

  agree-key : (q : K) → agree E (map_of bytes m.entries) (map_of bytes n.entries) (bytes q)
      ≡ option_eq E (lookup (is_at (cmp q)) m.entries) (lookup (is_at (cmp q)) n.entries)
  agree-key q = λ i. option_eq E (get-map_of bytes cmp same m.entries q i) (get-map_of bytes cmp same n.entries q i)

  agree_everywhere : FindAlike o E m.entries n.entries → (q : List ℕ) → Agree q
  agree_everywhere alike q = next (get_or_key bytes q m.entries) (get_or_key bytes q n.entries)
    where
      at_own : ((k : K) × (bytes k ≡ q)) → Agree q
      at_own found = subst Agree found.1 (agree-key found.0 ∙ alike found.0)

      next : (fin.get (map_of bytes m.entries) q ≡ None) ⊎ ((k : K) × (bytes k ≡ q))
          → (fin.get (map_of bytes n.entries) q ≡ None) ⊎ ((k : K) × (bytes k ≡ q)) → Agree q
      next (inr found) other = at_own found
      next (inl none) (inr found) = at_own found
      next (inl none) (inl neither) = λ i. option_eq E (none i) (neither i)

  pub tree_eq_as_maps_eq : (eq : K → K → Bool) → ((a b : K) → eq a b ≡ is_eq (cmp a b)) → IsOrdered cmp m
      → IsOrdered cmp n
      → pointwise (λ (p q : K × V). eq p.0 q.0 && E p.1 q.1) m.entries n.entries
      ≡ maps_eq E (map_of bytes m.entries) (map_of bytes n.entries)
  tree_eq_as_maps_eq eq ties s t =
      (λ i. pointwise (λ (p q : K × V). ties p.0 q.0 i && E p.1 q.1) m.entries n.entries)
      ∙ same_tests (pointwise (same_entry o E) m.entries n.entries)
      (maps_eq E (map_of bytes m.entries) (map_of bytes n.entries))
      (λ equal. maps_eq-from_agree E (map_of bytes m.entries) (map_of bytes n.entries)
      (agree_everywhere (find_alike o E m.entries n.entries equal)))
      (λ equal. equal_lists o E m.entries n.entries s t (λ q. sym (agree-key q)
      ∙ agree-from_maps_eq E (map_of bytes m.entries) (map_of bytes n.entries) equal (bytes q)))
