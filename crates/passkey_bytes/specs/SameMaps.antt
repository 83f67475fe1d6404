-- The equality of finite maps is a partial equivalence, or an equivalence, if that of their values is.
use Rattle.std.specs.Prelude.{◌≡◌, ℕ, Bool, true, false, List, [], ◌∷◌, Option, None, Some, is_some, refl, ◌⊎◌}
use Rattle.std.specs.Cmp.{IsEquivalence, IsPartialEquivalence, equiv, partial_equiv_from_equiv}
use Rattle.std.specs.Cmp.Lexicographic.{bytes_decides, options_equiv, slice_cmp, texts_ties}
use Rattle.std.specs.FinMap as fin
use Rattle.std.specs.List.{list_all, list_any}
use Rattle.std.specs.Option.{option_eq}
use Rattle.std.specs.Ordering.{eq_by_cmp, nat_cmp}
use Rattle.std.proofs.Common.{sym, subst, ◌∙◌, inl, inr}
use Rattle.std.proofs.lemmas.Bool.{and_from, and_parts, false≢true, or_cases}
use Rattle.passkey_bytes.specs.Map.{ByteMap, agree, maps_eq}

pub same_tests : (a b : Bool) → (a ≡ true → b ≡ true) → (b ≡ true → a ≡ true) → a ≡ b
same_tests true b f g = sym (f refl)
same_tests false true f g = g refl
same_tests false false f g = refl

all_from_each : {K : Type 0} (t : K → Bool) → ((k : K) → t k ≡ true) → (ks : List K) → list_all t ks ≡ true
all_from_each t h [] = refl
all_from_each t h (k ∷ ks) = and_from (t k) (list_all t ks) (h k) (all_from_each t h ks)

passes_at : (t : List ℕ → Bool) (q : List ℕ) (ks : List (List ℕ)) → list_all t ks ≡ true
    → list_any (eq_by_cmp (slice_cmp nat_cmp) q) ks ≡ true → t q ≡ true
passes_at t q [] all found = absurd (false≢true found)
passes_at t q (k ∷ ks) all found =
    let parts = and_parts (t k) (list_all t ks) all in
    elim (or_cases (eq_by_cmp (slice_cmp nat_cmp) q k) (list_any (eq_by_cmp (slice_cmp nat_cmp) q) ks) found) [
      | inl here ↦
          let P : List ℕ → Type 0 = λ b. t b ≡ true in
          subst P (sym ((bytes_decides q k).0 (texts_ties q k ∙ here))) parts.0
      | inr later ↦ passes_at t q ks parts.1 later
    ]

some_or_none : {V : Type 0} (found : Option V) (b : Bool) → is_some found ≡ b → (b ≡ true) ⊎ (found ≡ None)
some_or_none None b e = inr refl
some_or_none (Some v) b e = inl (sym e)

-- the map has the key, or looking it up returns `None`
key_or_none : {V : Type 0} (m : ByteMap V) (q : List ℕ)
    → (list_any (eq_by_cmp (slice_cmp nat_cmp) q) (fin.keys m) ≡ true) ⊎ (fin.get m q ≡ None)
key_or_none m q = some_or_none (fin.get m q) _ (fin.contains_key-keys m q)

module _ {V : Type 0} (E : V → V → Bool) where
  pub maps_eq-from_agree : (m n : ByteMap V) → ((q : List ℕ) → agree E m n q ≡ true) → maps_eq E m n ≡ true
  maps_eq-from_agree m n h = and_from (list_all (agree E m n) (fin.keys m)) (list_all (agree E m n) (fin.keys n))
      (all_from_each (agree E m n) h (fin.keys m)) (all_from_each (agree E m n) h (fin.keys n))

  pub agree-from_maps_eq : (m n : ByteMap V) → maps_eq E m n ≡ true → (q : List ℕ) → agree E m n q ≡ true
  agree-from_maps_eq m n h q =
      let parts = and_parts (list_all (agree E m n) (fin.keys m)) (list_all (agree E m n) (fin.keys n)) h in
      elim (key_or_none m q) [
        | inl found ↦ passes_at (agree E m n) q (fin.keys m) parts.0 found
        | inr none ↦ elim (key_or_none n q) [
          | inl found ↦ passes_at (agree E m n) q (fin.keys n) parts.1 found
          | inr neither ↦ λ i. option_eq E (none i) (neither i)
        ]
      ]

  option_eq-turned : ((x y : V) → E x y ≡ E y x) → (a b : Option V) → option_eq E a b ≡ option_eq E b a
  option_eq-turned turned None None = refl
  option_eq-turned turned None (Some y) = refl
  option_eq-turned turned (Some x) None = refl
  option_eq-turned turned (Some x) (Some y) = turned x y

  option_eq-joined : ((x y z : V) → E x y ≡ true → E y z ≡ true → E x z ≡ true) → (a b c : Option V)
      → option_eq E a b ≡ true → option_eq E b c ≡ true → option_eq E a c ≡ true
  option_eq-joined joined None None c left right = right
  option_eq-joined joined None (Some y) c left right = absurd (false≢true left)
  option_eq-joined joined (Some x) None c left right = absurd (false≢true left)
  option_eq-joined joined (Some x) (Some y) None left right = absurd (false≢true right)
  option_eq-joined joined (Some x) (Some y) (Some z) left right = joined x y z left right

  maps_eq-turned : IsPartialEquivalence E → (m n : ByteMap V) → maps_eq E m n ≡ true → maps_eq E n m ≡ true
  maps_eq-turned p m n h = maps_eq-from_agree n m
      (λ q. option_eq-turned p.symm (fin.get n q) (fin.get m q) ∙ agree-from_maps_eq m n h q)

  pub maps_eq-partial : IsPartialEquivalence E → IsPartialEquivalence (maps_eq E)
  maps_eq-partial p = record {
    symm = λ m n. same_tests (maps_eq E m n) (maps_eq E n m) (maps_eq-turned p m n) (maps_eq-turned p n m);
    trans = λ l m n a b. maps_eq-from_agree l n
        (λ q. option_eq-joined p.trans (fin.get l q) (fin.get m q) (fin.get n q) (agree-from_maps_eq l m a q)
        (agree-from_maps_eq m n b q));
  }

  pub maps_eq-equivalence : IsEquivalence E → IsEquivalence (maps_eq E)
  maps_eq-equivalence e = equiv (maps_eq-partial (partial_equiv_from_equiv e))
      (λ m. maps_eq-from_agree m m (λ q. (options_equiv e).refl (fin.get m q)))
