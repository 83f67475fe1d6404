-- What a finite map contains, by the list of entries that it is made of.
use Rattle.std.specs.BTreeMap.{is_at}
use Rattle.std.specs.Cmp.Lexicographic.{bytes_decides, slice_cmp, texts_ties}
use Rattle.std.specs.FinMap as fin
use Rattle.std.specs.FinMap.Entries.{by_order}
use Rattle.std.specs.Ordering.{eq_by_cmp, is_eq, nat_cmp}
use Rattle.std.specs.declared.cmp.Ordering.{Ordering}
use Rattle.std.specs.declared.cmp.Ordering.TheVariants.{Less}
use Rattle.std.specs.List.{AllByRecursion, AllZip}
use Rattle.std.specs.List.Sorted.{IsStrictlySortedBy}
use Rattle.std.specs.Option.{IsSomeAnd}
use Rattle.std.specs.Map.{keys_of, lookup}
use Rattle.std.specs.Str.{bytes_eq}
use Rattle.std.proofs.Common.{◌≡◌, ℕ, suc, Bool, true, false, cond, List, [], ◌∷◌, length, refl, sym, ap, ◌∙◌, Option, Some, None, ◌↔◌, subst, MatchOption, ◌⊎◌, inl, inr}
use Rattle.std.proofs.lemmas.Cmp.{nat_list_cmp_total}
use Rattle.std.proofs.lemmas.Map.Keys.{sorted_head, sorted_tail}
use Rattle.passkey_bytes.specs.Map.{ByteMap, ClonesValues, by_bytes, map_of}
use Rattle.passkey_bytes.proofs.Placed.{entries_empty}

module _ {K V : Type 0} (bytes : K → List ℕ) (cmp : K → K → Ordering)
    (same : (a b : K) → cmp a b ≡ slice_cmp nat_cmp (bytes a) (bytes b)) where
  find-by_bytes : (q : K) (es : List (K × V))
      → fin.find (slice_cmp nat_cmp) (bytes q) (by_bytes bytes es) ≡ lookup (is_at (cmp q)) es
  find-by_bytes q [] = refl
  find-by_bytes q (e ∷ es) = λ i. cond (is_eq (sym (same q e.0) i)) (Some e.1) (find-by_bytes q es i)

  pub get-map_of : (es : List (K × V)) (q : K) → fin.get (map_of bytes es) (bytes q) ≡ lookup (is_at (cmp q)) es
  get-map_of es q = fin.get-from_entries nat_list_cmp_total (by_bytes bytes es) (bytes q) ∙ find-by_bytes q es

  -- an entry whose key is less than all others is put first
  put_first : (e : K × V) (es : List (K × V)) → AllByRecursion (λ k. cmp e.0 k ≡ Less) (keys_of es)
      → fin.put (slice_cmp nat_cmp) (bytes e.0) e.1 (by_bytes bytes es) ≡ by_bytes bytes (e ∷ es)
  put_first e [] below = refl
  put_first e (f ∷ fs) below =
      ap (λ (r : Ordering). by_order r (by_bytes bytes (e ∷ f ∷ fs)) ((bytes f.0, e.1) ∷ by_bytes bytes fs)
      ((bytes f.0, f.1) ∷ fin.put (slice_cmp nat_cmp) (bytes e.0) e.1 (by_bytes bytes fs)))
      (sym (same e.0 f.0) ∙ below.0)

  -- sorted entries are the entries of their map
  pub entries-map_of : (es : List (K × V)) → IsStrictlySortedBy cmp (keys_of es)
      → by_bytes bytes es ≡ fin.entries (map_of bytes es)
  entries-map_of [] sorted = sym entries_empty
  entries-map_of (e ∷ es) sorted =
      sym (fin.entries-insert nat_list_cmp_total (map_of bytes es) (bytes e.0) e.1
      ∙ ap (fin.put (slice_cmp nat_cmp) (bytes e.0) e.1)
      (sym (entries-map_of es (sorted_tail cmp e.0 (keys_of es) sorted)))
      ∙ put_first e es (sorted_head cmp e.0 (keys_of es) sorted))

  length-by_bytes : (es : List (K × V)) → length (by_bytes bytes es) ≡ length es
  length-by_bytes [] = refl
  length-by_bytes (e ∷ es) = ap (λ n. suc n) (length-by_bytes es)

  pub len-map_of : (es : List (K × V)) → IsStrictlySortedBy cmp (keys_of es) → fin.len (map_of bytes es) ≡ length es
  len-map_of es sorted =
      fin.len-entries (map_of bytes es)
      ∙ ap length (sym (entries-map_of es sorted))
      ∙ length-by_bytes es

module _ {K V : Type 0} (bytes : K → List ℕ) where
  find_or_key : (q : List ℕ) (es : List (K × V))
      → (fin.find (slice_cmp nat_cmp) q (by_bytes bytes es) ≡ None) ⊎ ((k : K) × (bytes k ≡ q))
  find_or_key q [] = inl refl
  find_or_key q (e ∷ es) = next (bytes_eq q (bytes e.0)) refl (find_or_key q es)
    where
      next : (b : Bool) → bytes_eq q (bytes e.0) ≡ b
          → (fin.find (slice_cmp nat_cmp) q (by_bytes bytes es) ≡ None) ⊎ ((k : K) × (bytes k ≡ q))
          → (fin.find (slice_cmp nat_cmp) q (by_bytes bytes (e ∷ es)) ≡ None) ⊎ ((k : K) × (bytes k ≡ q))
      next true is rest = inr (e.0, sym ((bytes_decides q (bytes e.0)).0 is))
      next false is (inl none) = inl (ap (λ b. cond b (Some e.1)
          (fin.find (slice_cmp nat_cmp) q (by_bytes bytes es))) (sym (texts_ties q (bytes e.0)) ∙ is) ∙ none)
      next false is (inr found) = inr found

  -- the bytes aren't in the map, or they are those of a key
  pub get_or_key : (q : List ℕ) (es : List (K × V))
      → (fin.get (map_of bytes es) q ≡ None) ⊎ ((k : K) × (bytes k ≡ q))
  get_or_key q es = elim (find_or_key q es) [
    | inl none ↦ inl (fin.get-from_entries nat_list_cmp_total (by_bytes bytes es) q ∙ none)
    | inr found ↦ inr found
  ]

pub none_iff_empty : {V : Type 0} (m : ByteMap V) → (fin.len m ≡ 0) ↔ (m ≡ fin.empty)
none_iff_empty {V} m = (fin.empty_of_len m, λ same. ap fin.len same ∙ fin.len-empty (slice_cmp nat_cmp) V)

module _ {K V : Type 0} (bytes : K → List ℕ) (C : K → K → Type 0) (keeps : (a b : K) → C a b → bytes b ≡ bytes a)
    (D : V → V → Type 0) where
  abbrev AreClones : List (K × V) → List (K × V) → Type 0
  AreClones es fs = AllZip (λ e f. C e.0 f.0 × D e.1 f.1) es fs

  abbrev finds : List ℕ → List (K × V) → Option V
  finds q es = fin.find (slice_cmp nat_cmp) q (by_bytes bytes es)

  abbrev Cloned : Option V → Option V → Type 0
  Cloned found copy = MatchOption found (copy ≡ None) (λ v. IsSomeAnd copy (D v))

  cloned_first : (b : Bool) (v w : V) (found copy : Option V) → D v w → Cloned found copy
      → Cloned (cond b (Some v) found) (cond b (Some w) copy)
  cloned_first true v w found copy first rest = first
  cloned_first false v w found copy first rest = rest

  find-clone : (q : List ℕ) (es fs : List (K × V)) → AreClones es fs → Cloned (finds q es) (finds q fs)
  find-clone q [] [] h = refl
  find-clone q [] (f ∷ fs) h = absurd h
  find-clone q (e ∷ es) [] h = absurd h
  find-clone q (e ∷ es) (f ∷ fs) h =
      let P : List ℕ → Type 0 =
      λ k. Cloned (finds q (e ∷ es)) (cond (eq_by_cmp (slice_cmp nat_cmp) q k) (Some f.1) (finds q fs)) in
      subst P (sym (keeps e.0 f.0 h.0.0))
      (cloned_first (eq_by_cmp (slice_cmp nat_cmp) q (bytes e.0)) e.1 f.1 (finds q es) (finds q fs) h.0.1
      (find-clone q es fs h.1))

  pub ClonesValues-map_of : (es fs : List (K × V)) → AreClones es fs
      → ClonesValues D (map_of bytes es) (map_of bytes fs)
  ClonesValues-map_of es fs h q =
      let read : (gs : List (K × V)) → finds q gs ≡ fin.get (map_of bytes gs) q =
      λ gs. sym (fin.get-from_entries nat_list_cmp_total (by_bytes bytes gs) q) in
      let P : Option V → Type 0 = λ found. Cloned found (fin.get (map_of bytes fs) q) in
      let Q : Option V → Type 0 = λ copy. Cloned (finds q es) copy in
      subst P (read es) (subst Q (read fs) (find-clone q es fs h))

same_found : {V : Type 0} (D : V → V → Type 0) → ((v w : V) → D v w → w ≡ v) → (found copy : Option V)
    → MatchOption found (copy ≡ None) (λ v. IsSomeAnd copy (D v)) → copy ≡ found
same_found D exact None copy h = h
same_found D exact (Some v) None h = absurd h
same_found D exact (Some v) (Some w) h = ap Some (exact v w h)

-- if each cloned value equals its source, so does the cloned map
pub ClonesValues-same : {V : Type 0} (D : V → V → Type 0) → ((v w : V) → D v w → w ≡ v) → (m copy : ByteMap V)
    → ClonesValues D m copy → copy ≡ m
ClonesValues-same D exact m copy h =
    fin.same_map nat_list_cmp_total (fin.slice_cmp-IsAntisymmetric fin.nat_cmp-IsAntisymmetric) copy m
    (λ q. same_found D exact (fin.get m q) (fin.get copy q) (h q))

pub ClonesValues-empty : {V : Type 0} (D : V → V → Type 0) (m copy : ByteMap V) → m ≡ fin.empty → copy ≡ fin.empty
    → ClonesValues D m copy
ClonesValues-empty {V} D m copy none same q =
    let P : Option V
    → Type 0 = λ found. MatchOption found (fin.get copy q ≡ None) (λ v. IsSomeAnd (fin.get copy q) (D v)) in
    subst P (sym (ap (λ n. fin.get n q) none ∙ fin.get-empty (slice_cmp nat_cmp) q))
    (ap (λ n. fin.get n q) same ∙ fin.get-empty (slice_cmp nat_cmp) q)

-- the rules for reading a map
pub ruleset readings = (get-map_of, len-map_of, entries-map_of)
