-- The encodings of maps from texts can be decoded again.
use Rattle.std.specs.Cmp.Lexicographic.{slice_cmp}
use Rattle.std.specs.FinMap as fin
use Rattle.std.specs.FinMap.Entries.{by_order}
use Rattle.std.specs.List.{AllByRecursion, fold}
use Rattle.std.specs.Ordering.{match_ordering, nat_cmp}
use Rattle.std.specs.declared.cmp.Ordering.{Ordering}
use Rattle.std.specs.declared.cmp.Ordering.TheVariants.{Less}
use Rattle.std.proofs.Common.{◌≡◌, ◌∙◌, ℕ, List, [], ◌∷◌, Some, refl, sym, ap}
use Rattle.passkey_bytes.specs.Map.{ByteMap, put_each}
use Rattle.passkey_bytes.proofs.Placed.{placed, placed_again, put_each-entries}
use Rattle.passkey_json.specs.Kind.{Kind}
use Rattle.passkey_json.specs.MapKind.{with_members, map_from_texts, members_json, map_json}
use Rattle.passkey_json.specs.Written.{ReadsBack}
use Rattle.serde_json.specs.Data.{Data, Members, no_members, member, put}

module _ {A : Type 0} (json : A → Data) where
  -- the members with those of more entries added
  abbrev pub put_members : Members → List (List ℕ × A) → Members
  put_members ms es = fold (λ ns e. put e.0 (json e.1) ns) ms es

  in_order : (r : Ordering) (x y z : List (List ℕ × A)) → match_ordering r (members_json json x)
      (members_json json y) (members_json json z) ≡ members_json json (by_order r x y z)
  in_order Less x y z = refl
  in_order _ x y z = refl

  -- an entry has the same place among the members as among the entries
  put_member : (k : List ℕ) (v : A) (es : List (List ℕ × A))
      → put k (json v) (members_json json es) ≡ members_json json (fin.put (slice_cmp nat_cmp) k v es)
  put_member k v [] = refl
  put_member k v (e ∷ es) =
      let r = slice_cmp nat_cmp k e.0 in
      ap (λ (ms : Members). match_ordering r (member k (json v) (members_json json (e ∷ es)))
      (member e.0 (json v) (members_json json es)) (member e.0 (json e.1) ms)) (put_member k v es)
      ∙ in_order r ((k, v) ∷ e ∷ es) ((e.0, v) ∷ es) (e ∷ fin.put (slice_cmp nat_cmp) k v es)

  put_members-placed : (sorted es : List (List ℕ × A))
      → put_members (members_json json sorted) es ≡ members_json json (placed sorted es)
  put_members-placed sorted [] = refl
  put_members-placed sorted (e ∷ es) =
      ap (λ (ms : Members). put_members ms es) (put_member e.0 e.1 sorted)
      ∙ put_members-placed (fin.put (slice_cmp nat_cmp) e.0 e.1 sorted) es

  -- the entries of a map
  pub put_all : (m : ByteMap A) → put_members no_members (fin.entries m) ≡ members_json json (fin.entries m)
  put_all m = put_members-placed [] (fin.entries m) ∙ ap (members_json json) (placed_again m)

  -- one more entry
  pub put_more : (old new : Members) (left rest : List (List ℕ × A)) (name k : List ℕ) (x : A)
      → left ≡ (k, x) ∷ rest → name ≡ k → new ≡ put name (json x) old → put_members new rest ≡ put_members old left
  put_more old new left rest name k x next same added =
      ap (λ (ms : Members). put_members ms rest) (added ∙ ap (λ (n : List ℕ). put n (json x) old) same)
      ∙ sym (ap (put_members old) next)

module _ {A : Type 0} (kind : Kind A) (json : A → Data) where
  abbrev pub EachBack : List (List ℕ × A) → Type 0
  EachBack es = AllByRecursion (λ e. ReadsBack kind e.1 (json e.1)) es

  members_back : (m : ByteMap A) (es : List (List ℕ × A)) → EachBack es
      → with_members kind m (members_json json es) ≡ Some (put_each m es)
  members_back m [] back = refl
  members_back m (e ∷ es) back = rw back.0.plain (members_back (fin.insert m e.0 e.1) es back.1)

  pub map_back : (m : ByteMap A) → EachBack (fin.entries m) → ReadsBack (map_from_texts kind) m (map_json json m)
  map_back m back =
      let e : with_members kind fin.empty (members_json json (fin.entries m)) ≡ Some m =
      members_back fin.empty (fin.entries m) back ∙ ap Some (put_each-entries m) in
      record { plain = e; some = rw e refl }
