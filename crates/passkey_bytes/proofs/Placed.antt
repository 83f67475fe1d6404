-- Inserting the entries of a map one after the other.
use Rattle.std.specs.Cmp.Lexicographic.{bytes_decides, slice_cmp, texts_ties}
use Rattle.std.specs.FinMap as fin
use Rattle.std.specs.FinMap.Entries.{below_all, is_sorted}
use Rattle.std.specs.List.{AllByRecursion, IsDistinct, fold}
use Rattle.std.specs.Map.{keys_of}
use Rattle.std.specs.Option.{option_or}
use Rattle.std.specs.Ordering.{eq_by_cmp, is_eq, is_lt, nat_cmp}
use Rattle.std.specs.declared.cmp.Ordering.{Ordering}
use Rattle.std.specs.declared.cmp.Ordering.TheVariants.{Less, Equal, Greater}
use Rattle.std.specs.Str.{bytes_eq}
use Rattle.std.proofs.Common.{◌≡◌, ◌∙◌, ℕ, Bool, true, false, ◌&&◌, cond, T, List, [], ◌∷◌, length, map, Option, Some, None, refl, sym, ap, arith}
use Rattle.std.proofs.lemmas.Cmp.{nat_list_cmp_total}
use Rattle.std.proofs.lemmas.List.{map-id}
use Rattle.std.proofs.lemmas.Map.Keys.{IsDistinct-head, IsDistinct-tail}
use Rattle.passkey_bytes.specs.Map.{ByteMap, AreEntries, put_each}

pub same_bytes : fin.IsAntisymmetric (slice_cmp nat_cmp)
same_bytes = fin.slice_cmp-IsAntisymmetric fin.nat_cmp-IsAntisymmetric

none_long : {X : Type 0} (xs : List X) → length xs ≡ 0 → xs ≡ []
none_long [] e = refl
none_long (x ∷ xs) e = absurd (omega arith)

pub entries_empty : {X : Type 0} → fin.entries (fin.empty {X = X} {R = slice_cmp nat_cmp}) ≡ []
entries_empty {X} = none_long _
    (sym (fin.len-entries (fin.empty {X = X} {R = slice_cmp nat_cmp})) ∙ fin.len-empty (slice_cmp nat_cmp) X)

module _ {V : Type 0} where
  abbrev pub placed : List (List ℕ × V) → List (List ℕ × V) → List (List ℕ × V)
  placed sorted es = fold (λ fs e. fin.put (slice_cmp nat_cmp) e.0 e.1 fs) sorted es

  entries-put_each : (m : ByteMap V) (es : List (List ℕ × V))
      → placed (fin.entries m) es ≡ fin.entries (put_each m es)
  entries-put_each m [] = refl
  entries-put_each m (e ∷ es) =
      ap (λ fs. placed fs es) (sym (fin.entries-insert nat_list_cmp_total m e.0 e.1))
      ∙ entries-put_each (fin.insert m e.0 e.1) es

  absent : (k : List ℕ) (es : List (List ℕ × V)) → AllByRecursion (λ q. bytes_eq k q ≡ false) (keys_of es)
      → fin.find (slice_cmp nat_cmp) k es ≡ None
  absent k [] apart = refl
  absent k (e ∷ es) apart =
      ap (λ (b : Bool). cond b (Some e.1) (fin.find (slice_cmp nat_cmp) k es)) (sym (texts_ties k e.0) ∙ apart.0)
      ∙ absent k es apart.1

  -- if the keys are distinct, the last entry with a key is the first one
  last_or_first : (q k : List ℕ) (v : V) (o : Option V) (es : List (List ℕ × V))
      → AllByRecursion (λ p. bytes_eq k p ≡ false) (keys_of es) → (b : Bool) → eq_by_cmp (slice_cmp nat_cmp) q k ≡ b
      → option_or (fin.find (slice_cmp nat_cmp) q es) (cond b (Some v) o)
      ≡ option_or (cond b (Some v) (fin.find (slice_cmp nat_cmp) q es)) o
  last_or_first q k v o es apart false is = refl
  last_or_first q k v o es apart true is =
      let same : q ≡ k = (bytes_decides q k).0 (texts_ties q k ∙ is) in
      ap (λ found. option_or found (Some v)) (ap (λ p. fin.find (slice_cmp nat_cmp) p es) same ∙ absent k es apart)

  get-put_each : (m : ByteMap V) (es : List (List ℕ × V)) → IsDistinct bytes_eq (keys_of es) → (q : List ℕ)
      → fin.get (put_each m es) q ≡ option_or (fin.find (slice_cmp nat_cmp) q es) (fin.get m q)
  get-put_each m [] distinct q = refl
  get-put_each m (e ∷ es) distinct q =
      get-put_each (fin.insert m e.0 e.1) es (IsDistinct-tail bytes_eq e.0 (keys_of es) distinct) q
      ∙ ap (option_or (fin.find (slice_cmp nat_cmp) q es)) (fin.get-insert nat_list_cmp_total m e.0 e.1 q)
      ∙ last_or_first q e.0 e.1 (fin.get m q) es (IsDistinct-head bytes_eq e.0 (keys_of es) distinct) _ refl

  or_none : (o : Option V) → option_or o None ≡ o
  or_none None = refl
  or_none (Some v) = refl

  -- inserting entries with distinct keys one after the other
  put_each-distinct : (es : List (List ℕ × V)) → IsDistinct bytes_eq (keys_of es)
      → put_each fin.empty es ≡ fin.from_entries es
  put_each-distinct es distinct = fin.same_map nat_list_cmp_total same_bytes _ _
      (λ q. get-put_each fin.empty es distinct q
      ∙ ap (option_or (fin.find (slice_cmp nat_cmp) q es)) (fin.get-empty (slice_cmp nat_cmp) q)
      ∙ or_none _
      ∙ sym (fin.get-from_entries nat_list_cmp_total es q))

-- ---- sorted keys

both : (a b : Bool) → T (a && b) → T a × T b
both true b h = (tt, h)
both false b h = absurd h

less_apart : (k q : List ℕ) → T (is_lt (slice_cmp nat_cmp k q)) → bytes_eq k q ≡ false
less_apart k q h = texts_ties k q ∙ untied (slice_cmp nat_cmp k q) h where
  untied : (r : Ordering) → T (is_lt r) → is_eq r ≡ false
  untied Less h = refl
  untied Equal h = absurd h
  untied Greater h = absurd h

-- sorted keys are distinct, whatever view of the values is taken
module _ {A M : Type 0} (seen : A → M) where
  abbrev pub each_seen : List (List ℕ × A) → List (List ℕ × M)
  each_seen es = map (λ e. (e.0, seen e.1)) es

  apart_from : (k : List ℕ) (es : List (List ℕ × A)) → T (below_all (slice_cmp nat_cmp) k es)
      → AllByRecursion (λ q. bytes_eq k q ≡ false) (keys_of (each_seen es))
  apart_from k [] h = tt
  apart_from k (e ∷ es) h =
      let parts = both _ _ h in
      (less_apart k e.0 parts.0, apart_from k es parts.1)

  distinct_keys : (es : List (List ℕ × A)) → T (is_sorted (slice_cmp nat_cmp) es)
      → IsDistinct bytes_eq (keys_of (each_seen es))
  unfolding IsDistinct
  distinct_keys [] h = tt
  distinct_keys (e ∷ es) h =
      let parts = both _ _ h in
      (apart_from e.0 es parts.0, distinct_keys es parts.1)

  -- inserting the entries of a map one after the other, with a view of their values
  pub put_each-seen : (m : ByteMap A)
      → put_each fin.empty (each_seen (fin.entries m)) ≡ fin.from_entries (each_seen (fin.entries m))
  put_each-seen m =
      put_each-distinct (each_seen (fin.entries m)) (distinct_keys (fin.entries m) (fin.entries_sorted m))

-- a map is made of its entries
pub put_each-entries : {V : Type 0} (m : ByteMap V) → put_each fin.empty (fin.entries m) ≡ m
put_each-entries {V} m =
    let es : List (List ℕ × V) = fin.entries m in
    ap (put_each fin.empty) (sym (map-id es))
    ∙ put_each-seen (λ (v : V). v) m
    ∙ ap fin.from_entries (map-id es)
    ∙ fin.same_map nat_list_cmp_total same_bytes _ _
    (λ q. fin.get-from_entries nat_list_cmp_total es q ∙ sym (fin.get-entries m q))

-- the entries keep their order
pub placed_again : {V : Type 0} (m : ByteMap V) → placed [] (fin.entries m) ≡ fin.entries m
placed_again m =
    ap (λ fs. placed fs (fin.entries m)) (sym entries_empty)
    ∙ entries-put_each fin.empty (fin.entries m)
    ∙ ap fin.entries (put_each-entries m)

-- an iterator over a map from byte strings has the map's entries
pub entries_by_bytes : {V : Type 0} (m : ByteMap V) (es : List (List ℕ × V)) → AreEntries (λ b. b) m es
    → es ≡ fin.entries m
entries_by_bytes m es are = sym (map-id es) ∙ are
