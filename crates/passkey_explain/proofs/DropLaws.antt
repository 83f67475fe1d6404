-- What is left out is refused where any item is tolerated.
use Rattle.std.proofs.Common.{◌≡◌, ◌∙◌, ℕ, suc, ◌==◌, Bool, true, false, if◌then◌else◌, List, [], ◌∷◌, ◌++◌, Option, Some, None, option_map, slice_get, inl, inr, refl, ap}
use Rattle.std.proofs.lemmas.List.Elements.{All-nil, All-cons, All-append}
use Rattle.std.specs.List.{All}
use Rattle.std.specs.Option.{option_and_then}
use Rattle.std.specs.Prelude.{IfSome}
use Rattle.passkey_cbor.specs.Item.{Item, array, elements, members}
use Rattle.passkey_explain.proofs.BlameLaws.{AreLeft, first_left, others_left, all_left}
use Rattle.passkey_explain.proofs.Blames.{reached_further, some_same}
use Rattle.passkey_explain.proofs.Refusals.{refused}
use Rattle.passkey_explain.specs.Blame.{Step, element, key, at_fault, item_along, part_at}
use Rattle.passkey_explain.specs.Blaming.{blamed}
use Rattle.passkey_explain.specs.Dropped.{Leaving, Stepping, dropped, dropped_row, dropped_elements, dropped_list, dropped_pair, dropped_pairs, dropped_map, entry_step, step_by, member_step}
use Rattle.passkey_explain.specs.Drops.{IsLeftOut, Wraps}
use Rattle.passkey_kinds.specs.Record.{Members, Naming, row, unknown, wrong, names}
use Rattle.passkey_kinds.specs.Shape.{Entry, Shape, leaf, record_of, Rows, no_rows, Tested, reached, part_of, row_in, entries_in}
use Rattle.passkey_kinds.specs.declared.fault.Fault.TheVariants.{BadKey}
use Rattle.passkey_cbor.specs.Item as item
use Rattle.passkey_kinds.specs.Shape as shape

-- ---- one more step on the path

some_item : (o : Option Item) → option_and_then (item_along []) o ≡ o
some_item (Some i) = refl
some_item None = refl

after_step : (ss : List Step) (s : Step) (i : Item)
    → ((x : Item) → item_along ss x ≡ Some i → item_along (ss ++ s ∷ []) x ≡ part_at s i) → (o : Option Item)
    → option_and_then (item_along ss) o ≡ Some i → option_and_then (item_along (ss ++ s ∷ [])) o ≡ part_at s i
after_step ss s i rest (Some x) h = rest x h
after_step ss s i rest None h = absurd cc

along_further : (path : List Step) (s : Step) (whole i : Item) → item_along path whole ≡ Some i
    → item_along (path ++ s ∷ []) whole ≡ part_at s i
along_further [] s whole i e =
    let same : whole ≡ i = some_same e in some_item (part_at s whole) ∙ ap (part_at s) same
along_further (k ∷ ks) s whole i e =
    after_step ks s i (λ x. along_further ks s x i) (part_at k whole) e

-- ---- the parts of an item

module _ (root : Tested) (whole : Item) where
  -- what is left out wherever a path leads
  abbrev Leaves : Leaving → Type 0
  Leaves of = (path : List Step) (i : Item) → item_along path whole ≡ Some i → All (IsLeftOut root whole) (of path i)

  elements_left : (of : Leaving) → Leaves of → (is : item.Items) (path : List Step)
      → item_along path whole ≡ Some (array is) → (n : ℕ) (xs : List Item) → AreLeft (elements is) n xs
      → All (IsLeftOut root whole) (dropped_elements of path n xs)
  elements_left of leaves is path at n [] left = All-nil (IsLeftOut root whole)
  elements_left of leaves is path at n (x ∷ xs) left =
      let there = along_further path (element n) whole (array is) at ∙ first_left (elements is) n x xs left in
      All-append (IsLeftOut root whole) (of (path ++ element n ∷ []) x) (dropped_elements of path (suc n) xs)
      (leaves (path ++ element n ∷ []) x there)
      (elements_left of leaves is path at (suc n) xs (others_left (elements is) n x xs left))

  pub list_left : (of : Leaving) → Leaves of → Leaves (dropped_list of)
  unfolding dropped_list
  list_left of leaves path (array is) at = elements_left of leaves is path at 0 (elements is) (all_left (elements is))
  list_left of leaves path _ at = All-nil (IsLeftOut root whole)

  -- each step leads to the value of the pair at its index, and a key that no step follows is left out
  pub record Steps (steps : Stepping) (path : List Step) (ps : item.Pairs) : Type 0 where
    pub lead : (n : ℕ) (m : Item × Item) → slice_get (members ps) n ≡ Some m
        → IfSome (steps n m.0) (λ s. part_at s.0 (item.map ps) ≡ Some m.1)
    pub others : (n : ℕ) (m : Item × Item) → slice_get (members ps) n ≡ Some m → steps n m.0 ≡ None
        → IsLeftOut root whole (record { path = path ++ key n ∷ []; blame = at_fault BadKey })

  pair_left : (of : ℕ → Leaving) → ((n : ℕ) → Leaves (of n)) → (ps : item.Pairs) (path : List Step)
      → item_along path whole ≡ Some (item.map ps) → (n : ℕ) (o : Option (Step × ℕ)) (i : Item)
      → IfSome o (λ s. part_at s.0 (item.map ps) ≡ Some i)
      → (o ≡ None → IsLeftOut root whole (record { path = path ++ key n ∷ []; blame = at_fault BadKey }))
      → All (IsLeftOut root whole) (dropped_pair of path n o i)
  pair_left of leaves ps path at n (Some s) i there out =
      leaves s.1 (path ++ s.0 ∷ []) i (along_further path s.0 whole (item.map ps) at ∙ there)
  pair_left of leaves ps path at n None i there out =
      All-cons (IsLeftOut root whole) (record { path = path ++ key n ∷ []; blame = at_fault BadKey }) [] (out refl)
      (All-nil (IsLeftOut root whole))

  pairs_left : (steps : Stepping) (of : ℕ → Leaving) → ((n : ℕ) → Leaves (of n)) → (ps : item.Pairs)
      (path : List Step) → item_along path whole ≡ Some (item.map ps) → Steps steps path ps → (n : ℕ) (ms : Members)
      → AreLeft (members ps) n ms → All (IsLeftOut root whole) (dropped_pairs steps of path n ms)
  pairs_left steps of leaves ps path at by n [] left = All-nil (IsLeftOut root whole)
  pairs_left steps of leaves ps path at by n (m ∷ ms) left =
      let first = first_left (members ps) n m ms left in
      All-append (IsLeftOut root whole) (dropped_pair of path n (steps n m.0) m.1) (dropped_pairs steps of path (suc n) ms)
      (pair_left of leaves ps path at n (steps n m.0) m.1 (by.lead n m first) (by.others n m first))
      (pairs_left steps of leaves ps path at by (suc n) ms (others_left (members ps) n m ms left))

  pub map_left : (steps : Stepping) → ((path : List Step) (ps : item.Pairs) → item_along path whole ≡ Some (item.map ps)
      → Steps steps path ps) → (of : ℕ → Leaving) → ((n : ℕ) → Leaves (of n)) → Leaves (dropped_map steps of)
  unfolding dropped_map
  map_left steps by of leaves path (item.map ps) at =
      pairs_left steps of leaves ps path at (by path ps at) 0 (members ps) (all_left (members ps))
  map_left steps by of leaves path _ at = All-nil (IsLeftOut root whole)

  pub entries_by : (path : List Step) (ps : item.Pairs) → Steps entry_step path ps
  entries_by path ps = record {
    lead = λ n m at. ap (option_map (λ (p : Item × Item). p.1)) at;
    others = λ n m at none. absurd cc;
  }

  naming_leads : (es : List Entry) (ps : item.Pairs) (n : ℕ) (m : Item × Item) → slice_get (members ps) n ≡ Some m
      → (naming : Naming) → IfSome (step_by es n naming) (λ s. part_at s.0 (item.map ps) ≡ Some m.1)
  naming_leads es ps n m at (row k) = ap (option_map (λ (p : Item × Item). p.1)) at
  naming_leads es ps n m at unknown = tt
  naming_leads es ps n m at wrong = tt

  pub members_by : (b : Bool) (rows : Rows) (place : Tested) (way : List ℕ) → reached way root ≡ Some place
      → Wraps place.shape (record_of b rows) → (path : List Step) (ps : item.Pairs)
      → item_along path whole ≡ Some (item.map ps) → Steps (member_step b (entries_in rows)) path ps
  members_by b rows place way reaches has path ps at = record {
    lead = λ n m there. naming_leads (entries_in rows) ps n m there (names b (entries_in rows) m.0);
    others = λ n m there none. inr (record {
      path = path;
      pairs = ps;
      leads = at;
      way = way;
      place = place;
      reaches = reaches;
      is_numbered = b;
      rows = rows;
      has = has;
      index = n;
      pair = m;
      there = there;
      unknown = none;
      is = refl;
    });
  }

  -- a place that tolerates any item
  pub tolerant_case : (keeps : Item → Bool) (s : Shape) (place : Tested) (way : List ℕ) → reached way root ≡ Some place
      → Wraps place.shape (shape.tolerant keeps s) → (path : List Step) (i : Item)
      → item_along path whole ≡ Some i → All (IsLeftOut root whole) (dropped s path i) → (c : Bool) → keeps i ≡ c
      → All (IsLeftOut root whole) (if c then dropped s path i else record { path = path; blame = blamed s i } ∷ [])
  tolerant_case keeps s place way reaches tolerates path i at inner true e = inner
  tolerant_case keeps s place way reaches tolerates path i at inner false e =
      All-cons (IsLeftOut root whole) (record { path = path; blame = blamed s i }) [] (inl (record {
        part = i;
        leads = at;
        way = way;
        place = place;
        reaches = reaches;
        kept = record { accepts = keeps; shape = s };
        tolerates = tolerates;
        refused = refused s keeps i e;
      })) (All-nil (IsLeftOut root whole))

mutual
  pub shape_left : (root : Tested) (whole : Item) (s : Shape) (place : Tested) (way : List ℕ)
      → reached way root ≡ Some place → ((n : ℕ) → part_of n place.shape ≡ part_of n s)
      → ((t : Shape) → Wraps s t → Wraps place.shape t) → (path : List Step) (i : Item)
      → item_along path whole ≡ Some i → All (IsLeftOut root whole) (dropped s path i)
  shape_left root whole (leaf w) place way reaches same wraps path i at = All-nil (IsLeftOut root whole)
  shape_left root whole (shape.list a s) place way reaches same wraps path i at =
      list_left root whole (dropped s) (shape_left root whole s (record { accepts = a; shape = s }) (way ++ 0 ∷ [])
      (reached_further way 0 root place reaches ∙ same 0) (λ n. refl) (λ t h. h)) path i at
  shape_left root whole (shape.map a s) place way reaches same wraps path i at =
      map_left root whole entry_step (λ q ps at. entries_by root whole q ps) (λ n. dropped s)
      (λ n. shape_left root whole s (record { accepts = a; shape = s }) (way ++ 0 ∷ [])
      (reached_further way 0 root place reaches ∙ same 0) (λ n. refl) (λ t h. h)) path i at
  shape_left root whole (record_of b rows) place way reaches same wraps path i at =
      map_left root whole (member_step b (entries_in rows))
      (members_by root whole b rows place way reaches (wraps (record_of b rows) refl))
      (dropped_row rows) (λ n. rows_left root whole rows n (way ++ n ∷ [])
      (λ u e. reached_further way n root place reaches ∙ same n ∙ e)) path i at
  shape_left root whole (shape.tolerant keeps s) place way reaches same wraps path i at =
      tolerant_case root whole keeps s place way reaches (wraps (shape.tolerant keeps s) (inl refl))
      path i at (shape_left root whole s place way reaches same (λ t h. wraps t (inr h)) path i at) (keeps i) refl

  rows_left : (root : Tested) (whole : Item) (rs : Rows) (n : ℕ) (way : List ℕ)
      → ((u : Tested) → row_in rs n ≡ Some u → reached way root ≡ Some u) → (path : List Step) (i : Item)
      → item_along path whole ≡ Some i → All (IsLeftOut root whole) (dropped_row rs n path i)
  rows_left root whole no_rows n way reaches path i at = All-nil (IsLeftOut root whole)
  rows_left root whole (shape.row e a s rs) n way reaches path i at = (elim (e.number == n)
      as (λ c. ((u : Tested) → (if c then Some (record { accepts = a; shape = s }) else row_in rs n) ≡ Some u
      → reached way root ≡ Some u)
      → All (IsLeftOut root whole) (if c then dropped s path i else dropped_row rs n path i)) [
        | true ↦ λ h. shape_left root whole s (record { accepts = a; shape = s }) way
            (h (record { accepts = a; shape = s }) refl) (λ k. refl) (λ t g. g) path i at
        | false ↦ λ h. rows_left root whole rs n way h path i at
      ]) reaches
