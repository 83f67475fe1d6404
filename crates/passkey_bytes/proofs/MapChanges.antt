-- A change of an ordered tree at one key changes its finite map at that key likewise.
use Rattle.std.specs.BTreeMap.{BTreeMap, Updates, UpdatesBy, is_at}
use Rattle.std.specs.Cmp.{eq_by_cmp_equiv}
use Rattle.std.specs.Cmp.Lexicographic.{bytes_decides, slice_cmp, texts_ties}
use Rattle.std.specs.FinMap as fin
use Rattle.std.specs.Map.{lookup}
use Rattle.std.specs.Ordering.{eq_by_cmp, is_eq, nat_cmp}
use Rattle.std.specs.declared.cmp.Ordering.{Ordering}
use Rattle.std.specs.Str.{bytes_eq}
use Rattle.std.proofs.Common.{◌≡◌, ℕ, Bool, true, false, cond, List, refl, sym, ap, subst, ◌∙◌, inl, inr, Option, Some, None}
use Rattle.std.proofs.lemmas.Cmp.{nat_list_cmp_total}
use Rattle.passkey_bytes.specs.Map.{map_of}
use Rattle.passkey_bytes.proofs.Maps.{get-map_of, get_or_key}
use Rattle.passkey_bytes.proofs.Placed.{same_bytes}

module _ {K V : Type 0} (bytes : K → List ℕ) (cmp : K → K → Ordering) (same : (a b : K) → cmp a b ≡ slice_cmp
    nat_cmp (bytes a) (bytes b)) (key : K) (value : Option V) (old new : List (K × V)) (changed : (q : K)
    → lookup (is_at (cmp q)) new ≡ cond (is_at (cmp key) q) value (lookup (is_at (cmp q)) old)) where
  abbrev IsChanged : List ℕ → Type 0
  IsChanged q = fin.get (map_of bytes new) q
      ≡ cond (eq_by_cmp (slice_cmp nat_cmp) q (bytes key)) value (fin.get (map_of bytes old) q)

  -- the test whether two keys are equal is symmetric
  turned : (k : K) → is_at (cmp key) k ≡ eq_by_cmp (slice_cmp nat_cmp) (bytes k) (bytes key)
  turned k = ap is_eq (same key k) ∙ (eq_by_cmp_equiv nat_list_cmp_total).symm (bytes key) (bytes k)

  at_key : (k : K) → IsChanged (bytes k)
  at_key k = get-map_of bytes cmp same new k ∙ changed k
      ∙ (λ i. cond (turned k i) value (sym (get-map_of bytes cmp same old k) i))

  at_own : (q : List ℕ) → ((k : K) × (bytes k ≡ q)) → IsChanged q
  at_own q found = subst IsChanged found.1 (at_key found.0)

  -- at bytes that are no key's, nothing changes
  elsewhere : (q : List ℕ) (b : Bool) → bytes_eq q (bytes key) ≡ b → fin.get (map_of bytes new) q ≡ None
      → fin.get (map_of bytes old) q ≡ None → IsChanged q
  elsewhere q true is none before = at_own q (key, sym ((bytes_decides q (bytes key)).0 is))
  elsewhere q false is none before = none ∙ sym before
      ∙ sym (ap (λ b. cond b value (fin.get (map_of bytes old) q)) (sym (texts_ties q (bytes key)) ∙ is))

  pub get-changed : (q : List ℕ) → IsChanged q
  get-changed q = elim (get_or_key bytes q new) [
    | inr found ↦ at_own q found
    | inl none ↦ elim (get_or_key bytes q old) [
      | inr found ↦ at_own q found
      | inl before ↦ elsewhere q (bytes_eq q (bytes key)) refl none before
    ]
  ]

module _ {K V : Type 0} (bytes : K → List ℕ) (cmp : K → K → Ordering)
    (same : (a b : K) → cmp a b ≡ slice_cmp nat_cmp (bytes a) (bytes b)) (key : K) (old new : List (K × V)) where
  pub map_of-insert : (v : V) → ((q : K) → lookup (is_at (cmp q)) new ≡ cond (is_at (cmp key) q) (Some v)
      (lookup (is_at (cmp q)) old)) → map_of bytes new ≡ fin.insert (map_of bytes old) (bytes key) v
  map_of-insert v changed = fin.same_map nat_list_cmp_total same_bytes _ _
      (λ q. get-changed bytes cmp same key (Some v) old new changed q
      ∙ sym (fin.get-insert nat_list_cmp_total (map_of bytes old) (bytes key) v q))

  pub map_of-remove : ((q : K) → lookup (is_at (cmp q)) new ≡ cond (is_at (cmp key) q) None
      (lookup (is_at (cmp q)) old)) → map_of bytes new ≡ fin.remove (map_of bytes old) (bytes key)
  map_of-remove changed = fin.same_map nat_list_cmp_total same_bytes _ _
      (λ q. get-changed bytes cmp same key None old new changed q
      ∙ sym (fin.get-remove nat_list_cmp_total (map_of bytes old) (bytes key) q))

module _ {K V : Type 0} (bytes : K → List ℕ) (cmp : K → K → Ordering) where
  pub removed : (same : (a b : K) → cmp a b ≡ slice_cmp nat_cmp (bytes a) (bytes b)) (key : K) (m n : BTreeMap K V)
      → UpdatesBy cmp (cmp key) m n None → map_of bytes n.entries ≡ fin.remove (map_of bytes m.entries) (bytes key)
  removed same key m n updates = map_of-remove bytes cmp same key m.entries n.entries updates.0

  pub inserted :
      (same : (a b : K) → cmp a b ≡ slice_cmp nat_cmp (bytes a) (bytes b)) (key : K) (v : V) (m n : BTreeMap K V)
      → Updates cmp m n key (Some v) → map_of bytes n.entries ≡ fin.insert (map_of bytes m.entries) (bytes key) v
  inserted same key v m n updates = map_of-insert bytes cmp same key m.entries n.entries v updates.0

-- the rules for looking up in a map, and for changing it
pub ruleset changes = (get-map_of, inserted, removed)
