-- Listing what a message leaves out, part by part.
use Rattle.std.proofs.Common.{◌≡◌, ◌∙◌, ℕ, zero, suc, ◌+◌, ◌==◌, ◌≤◌, ◌&&◌, arith, add-one, append_assoc, append-nil, Bool, true, false, if◌then◌else◌, List, [], ◌∷◌, ◌++◌, length, length-append, map, drop, Option, Some, None, slice_get, option_map, refl, sym, ap, subst, Bor}
use Rattle.std.proofs.lemmas.List.{map-append}
use Rattle.std.specs.Prelude.{IfOk, IfSome}
use Rattle.passkey_cbor.proofs.items.Items.{elements-items_of, members-pairs_of}
use Rattle.passkey_cbor.specs.CursorState.{CursorState, MovesForward}
use Rattle.passkey_cbor.specs.EncodedAt.{Lies, IsEncodedAt, Opens, Passes}
use Rattle.passkey_cbor.specs.Found.{FindsHead}
use Rattle.passkey_cbor.specs.HeadEncoding.{IsEncodingOfHead}
use Rattle.passkey_cbor.specs.Item.{Item, array, elements, members}
use Rattle.passkey_cbor.specs.LeadingItem.{IsLeadingItem}
use Rattle.passkey_cbor.specs.declared.head.Head.{Head}
use Rattle.passkey_explain.proofs.Blames.{bare, parts_like, is_list, is_map, is_record, reached_further, row_reached, some_same}
use Rattle.passkey_explain.proofs.Parts.{one_more, turn_key, turn_value}
use Rattle.passkey_explain.proofs.Way.{ahead_at, headed, opened, starts}
use Rattle.passkey_explain.specs.Along.{ItemsLie, PassedItems, LiesAlong, parts_of, part_index, turns}
use Rattle.passkey_explain.specs.Blame.{Blame, Step, element, key, step_of}
use Rattle.passkey_explain.specs.Blaming.{blamed}
use Rattle.passkey_explain.specs.Dropped.{LeftOut, Leaving, Stepping, dropped, dropped_row, dropped_elements, dropped_list, dropped_pair, dropped_pairs, dropped_map, entry_step, step_by, member_step}
use Rattle.passkey_explain.specs.Drops.{Adds, IsOpened, Leaves, LeavesBy, LiesIn, PairStands, Stands, left_out, steps_by}
use Rattle.passkey_explain.specs.Next.{IsRecordAt}
use Rattle.passkey_explain.specs.declared.blame.Step.{Step as CodeStep}
use Rattle.passkey_explain.specs.declared.dropping.DroppedItem.{DroppedItem}
use Rattle.passkey_kinds.proofs.Common.{elements_in, members_in, entry_of, items_of, pairs_of, Members, Naming, row, unknown, wrong, names, Entry, Result, Ok, Err}
use Rattle.passkey_kinds.specs.Look.{HasForm}
use Rattle.passkey_kinds.specs.Shape.{Shape, leaf, record_of, Rows, no_rows, Tested, reached, part_of, row_in, entries_in, kept_by}
use Rattle.passkey_kinds.specs.declared.rows.Row.{Row}
use Rattle.passkey_kinds.specs.declared.wanted.Wanted.{Wanted}
use Rattle.passkey_memory.specs.declared.OutOfMemory.{OutOfMemory}
use Rattle.passkey_explain.specs.declared.dropping.Keys.{Keys}
use Rattle.passkey_cbor.specs.Item as item
use Rattle.passkey_explain.specs.declared.dropping.Keys.TheVariants as keys
use Rattle.passkey_kinds.specs.Shape as shape
use Rattle.passkey_kinds.specs.declared.look.Form.TheVariants as form

-- ---- the list as it grows

pub adds_nothing : (ds : List DroppedItem) → Adds [] ds ds
adds_nothing ds = sym (append-nil (map left_out ds))

pub adds_one : (old new : List DroppedItem) (d : DroppedItem) (l : LeftOut) → new ≡ old ++ d ∷ [] → left_out d ≡ l
    → Adds (l ∷ []) old new
adds_one old new d l is same =
    ap (map left_out) is ∙ map-append left_out old (d ∷ []) ∙ ap (λ (x : LeftOut). map left_out old ++ x ∷ []) same

pub adds_as : (a b : List LeftOut) (old new : List DroppedItem) → b ≡ a → Adds a old new → Adds b old new
adds_as a b old new same h = subst (λ (x : List LeftOut). Adds x old new) (sym same) h

pub if_added : (a b : List LeftOut) (r : Result (Unit {0}) OutOfMemory) (old new : List DroppedItem) → b ≡ a
    → IfOk r (λ x. Adds a old new) → IfOk r (λ x. Adds b old new)
if_added a b (Ok x) old new same h = adds_as a b old new same h
if_added a b (Err e) old new same h = tt

-- what is left to be added, after more of it was added
pub goes_on : (now new : List DroppedItem) (more left rest all : List LeftOut) → Adds more now new → left ≡ more ++ rest
    → map left_out now ++ left ≡ all → map left_out new ++ rest ≡ all
goes_on now new more left rest all adds is before =
    ap (λ (x : List LeftOut). x ++ rest) adds ∙ append_assoc (map left_out now) more rest
    ∙ sym (ap (λ (x : List LeftOut). map left_out now ++ x) is) ∙ before

pub elements_left : (of : Leaving) (path longer : List Step) (n : ℕ) (x : Item) (rest all : List Item) → all ≡ x ∷ rest
    → longer ≡ path ++ element n ∷ []
    → dropped_elements of path n all ≡ of longer x ++ dropped_elements of path (n + 1) rest
elements_left of path longer n x rest all at is = rw (at, is, add-one n) refl

pub pairs_left : (steps : Stepping) (of : ℕ → Leaving) (path : List Step) (s : Option (Step × ℕ)) (n : ℕ) (m : Item × Item)
    (rest all : Members) → all ≡ m ∷ rest → s ≡ steps n m.0
    → dropped_pairs steps of path n all ≡ dropped_pair of path n s m.1 ++ dropped_pairs steps of path (n + 1) rest
pairs_left steps of path s n m rest all at is = rw (at, is, add-one n) refl

pub value_leaves : (of : ℕ → Leaving) (path : List Step) (n : ℕ) (o : Option (Step × ℕ)) (s : Step × ℕ) (i : Item)
    (longer : List Step) (leaving : Leaving) → o ≡ Some s → ((q : List Step) (x : Item) → of s.1 q x ≡ leaving q x)
    → longer ≡ path ++ s.0 ∷ [] → dropped_pair of path n o i ≡ leaving longer i
value_leaves of path n o s i longer leaving is same further =
    ap (λ (p : Option (Step × ℕ)). dropped_pair of path n p i) is ∙ same (path ++ s.0 ∷ []) i
    ∙ ap (λ (q : List Step). leaving q i) (sym further)

-- ---- arrays and maps in memory

pub array_leaves : (of : Leaving) (path : List Step) (i : Item) (xs : List Item) → i ≡ array (items_of xs)
    → dropped_list of path i ≡ dropped_elements of path 0 xs
unfolding dropped_list
array_leaves of path i xs is = ap (dropped_list of path) is ∙ ap (dropped_elements of path 0) (elements-items_of xs)

pub no_array_leaves : (of : Leaving) (path : List Step) (i : Item) → elements_in i ≡ None → dropped_list of path i ≡ []
unfolding dropped_list
no_array_leaves of path (array is) e = absurd cc
no_array_leaves of path _ e = refl

pub map_leaves : (steps : Stepping) (of : ℕ → Leaving) (path : List Step) (i : Item) (ms : Members)
    → i ≡ item.map (pairs_of ms) → dropped_map steps of path i ≡ dropped_pairs steps of path 0 ms
unfolding dropped_map
map_leaves steps of path i ms is =
    ap (dropped_map steps of path) is ∙ ap (dropped_pairs steps of path 0) (members-pairs_of ms)

pub no_map_leaves : (steps : Stepping) (of : ℕ → Leaving) (path : List Step) (i : Item) → members_in i ≡ None
    → dropped_map steps of path i ≡ []
unfolding dropped_map
no_map_leaves steps of path (item.map ps) e = absurd cc
no_map_leaves steps of path _ e = refl

pub array_parts : (i : Item) (xs : List Item) → i ≡ array (items_of xs) → parts_of i ≡ xs
array_parts i xs is = ap parts_of is ∙ elements-items_of xs

pub map_parts : (i : Item) (ms : Members) → i ≡ item.map (pairs_of ms) → parts_of i ≡ turns ms
map_parts i ms is = ap parts_of is ∙ ap turns (members-pairs_of ms)

-- ---- an item that is kept, or isn't

kept_case : (s : Shape) (path : List Step) (i : Item) (b : Blame) → (kept_by s i ≡ true → dropped s path i ≡ dropped (bare s) path i)
    → (c : Bool) → (c && kept_by s i) ≡ true
    → (if c then dropped s path i else record { path = path; blame = b } ∷ []) ≡ dropped (bare s) path i
kept_case s path i b inner true h = inner h
kept_case s path i b inner false h = absurd cc

-- an item that is kept is left out of only in its parts
pub kept_leaves : (s : Shape) (path : List Step) (i : Item) → kept_by s i ≡ true
    → dropped s path i ≡ dropped (bare s) path i
kept_leaves (shape.tolerant keeps s) path i h =
    kept_case s path i (blamed s i) (kept_leaves s path i) (keeps i) h
kept_leaves _ path i h = refl

out_case : (s : Shape) (path : List Step) (i : Item) → (kept_by s i ≡ false
    → dropped s path i ≡ record { path = path; blame = blamed s i } ∷ [])
    → (c : Bool) → (c && kept_by s i) ≡ false
    → (if c then dropped s path i else record { path = path; blame = blamed s i } ∷ [])
    ≡ record { path = path; blame = blamed s i } ∷ []
out_case s path i inner true h = inner h
out_case s path i inner false h = refl

-- one that isn't is left out as a whole
pub left_out_whole : (s : Shape) (path : List Step) (i : Item) → kept_by s i ≡ false
    → dropped s path i ≡ record { path = path; blame = blamed s i } ∷ []
left_out_whole (shape.tolerant keeps s) path i h = out_case s path i (left_out_whole s path i) (keeps i) h
left_out_whole _ path i h = absurd cc

is_leaf : (s : Shape) (w : Wanted) → HasForm s (form.Leaf w) → (v : Wanted) × (bare s ≡ leaf v)
is_leaf (leaf v) w h = (v, refl)
is_leaf (shape.list a x) w h = absurd h
is_leaf (shape.map a x) w h = absurd h
is_leaf (record_of b rows) w h = absurd h
is_leaf (shape.tolerant a x) w h = is_leaf x w h

dropped_like : (s : Shape) {x : Shape} → bare s ≡ x → (path : List Step) (i : Item) → kept_by s i ≡ true
    → dropped s path i ≡ dropped x path i
dropped_like s is path i kept = kept_leaves s path i kept ∙ ap (λ (y : Shape). dropped y path i) is

pub leaf_leaves : (s : Shape) (w : Wanted) → HasForm s (form.Leaf w) → (path : List Step) (i : Item) → kept_by s i ≡ true
    → dropped s path i ≡ []
leaf_leaves s w h path i kept = dropped_like s (is_leaf s w h).1 path i kept

-- What a list leaves out of an item that is kept.
pub record KeepsList (root : Tested) (way : List ℕ) (s : Shape) : Type 0 where
  pub part : Tested
  pub reaches : reached (way ++ 0 ∷ []) root ≡ Some part
  pub same : (path : List Step) (i : Item) → kept_by s i ≡ true → dropped s path i ≡ dropped_list (dropped part.shape) path i

-- What a map leaves out of an item that is kept.
pub record KeepsMap (root : Tested) (way : List ℕ) (s : Shape) (steps : Stepping) : Type 0 where
  pub of : ℕ → Leaving
  pub leaves : Leaves root way of steps
  pub same : (path : List Step) (i : Item) → kept_by s i ≡ true → dropped s path i ≡ dropped_map steps of path i

pub dropped_by_row : (rs : Rows) (n : ℕ) (u : Tested) (path : List Step) (i : Item) → row_in rs n ≡ Some u
    → dropped_row rs n path i ≡ dropped u.shape path i
dropped_by_row no_rows n u path i = λ e. absurd cc
dropped_by_row (shape.row e a s rs) n u path i = elim (e.number == n)
    as (λ b. (if b then Some (record { accepts = a; shape = s }) else row_in rs n) ≡ Some u
    → (if b then dropped s path i else dropped_row rs n path i) ≡ dropped u.shape path i) [
      | true ↦ λ h. ap (λ (t : Tested). dropped t.shape path i) (some_same h)
      | false ↦ dropped_by_row rs n u path i
    ]

module _ (root t : Tested) (way : List ℕ) (at : reached way root ≡ Some t) where
  pub list_kept : HasForm t.shape form.List → KeepsList root way t.shape
  list_kept h =
      let l = is_list t.shape h in
      record {
        part = record { accepts = l.0; shape = l.1 };
        reaches = reached_further way 0 root t at ∙ parts_like t.shape l.2 0;
        same = dropped_like t.shape l.2;
      }

  pub map_kept : HasForm t.shape form.Map → KeepsMap root way t.shape entry_step
  map_kept h =
      let l = is_map t.shape h in
      record {
        of = λ n. dropped l.1;
        leaves = λ n label.
            (record { accepts = l.0; shape = l.1 }, (reached_further way 0 root t at ∙ parts_like t.shape l.2 0, λ path i. refl));
        same = dropped_like t.shape l.2;
      }

  row_leaves : (b : Bool) (es : List Entry) (rows : Rows) → IsRecordAt way root rows b es → (n : ℕ) (label : Item)
      (naming : Naming) → names b es label ≡ naming → IfSome (step_by es n naming) (LeavesBy root way (dropped_row rows))
  row_leaves b es rows there n label (row k) e =
      let u = row_reached there k label e (way ++ k ∷ []) refl in
      (u.0, (u.1.1, λ path i. dropped_by_row rows k u.0 path i u.1.0))
  row_leaves b es rows there n label unknown e = tt
  row_leaves b es rows there n label wrong e = tt

  pub record_kept : (b : Bool) (rs : Bor (List Row)) → HasForm t.shape (form.Record b rs)
      → KeepsMap root way t.shape (member_step b (map entry_of rs.now))
  record_kept b rs h =
      let l = is_record t.shape b rs h in
      let es = map entry_of rs.now in
      let there : IsRecordAt way root l.0 b es =
      record { at = t; reaches = at; parts = parts_like t.shape l.1; same = l.2 } in
      record {
        of = dropped_row l.0;
        leaves = λ n label. row_leaves b es l.0 there n label (names b es label) refl;
        same = λ path i kept. dropped_like t.shape l.1 path i kept
            ∙ sym (ap (λ (x : List Entry). dropped_map (member_step b x) (dropped_row l.0) path i) l.2);
      }

-- ---- where the cursor is

pub whole_stands : (i : Item) (bytes : List ℕ) (len : ℕ) → IsLeadingItem bytes i len → Stands i [] i bytes 0
whole_stands i bytes len front =
    record { to = len; there = starts i bytes len front; leads = λ rest from end h. h }

-- the item is encoded where the path leads
pub lies_at : {whole i : Item} {path : List Step} {bytes : List ℕ} {place : ℕ} (s : Stands whole path i bytes place)
    (from end : ℕ) → from ≡ place → end ≡ s.to → LiesAlong path whole bytes 0 from end
lies_at {whole} {i} {path} {bytes} {place} s from end at to =
    let there = s.leads [] place s.to (refl, s.there) in
    subst (λ (q : List Step). LiesAlong q whole bytes 0 from end) (append-nil path)
    (subst (λ (n : ℕ). LiesAlong (path ++ []) whole bytes 0 n end) (sym at)
    (subst (λ (n : ℕ). LiesAlong (path ++ []) whole bytes 0 place n) (sym to) there))

-- a dropped item is encoded where its path leads
pub lies_here : (d : DroppedItem) {whole i : Item} {p : List CodeStep} {bytes : List ℕ} {place : ℕ}
    (s : Stands whole (map step_of p) i bytes place) → d.path.items ≡ p → d.extent.offset ≡ place
    → d.extent.offset + d.extent.len ≡ s.to → LiesIn whole bytes d
lies_here d {whole} {i} {p} {bytes} {place} s same from end =
    subst (λ (q : List Step). LiesAlong q whole bytes 0 d.extent.offset (d.extent.offset + d.extent.len))
    (ap (map step_of) (sym same)) (lies_at s d.extent.offset (d.extent.offset + d.extent.len) from end)

-- after the head
pub head_opens : (whole i : Item) (path : List Step) (bytes : List ℕ) (a b : CursorState) (found : Option Head)
    → a.bytes ≡ bytes → Stands whole path i bytes a.place → FindsHead a b found
    → ((x : Item) (to : ℕ) → IsEncodedAt x a.bytes a.place to → Opens x to b found) → MovesForward a b
    → IsOpened whole path i bytes b.place
head_opens whole i path bytes a b None same s finds opens moves =
    absurd (opens i s.to (subst (λ (bs : List ℕ). IsEncodedAt i bs a.place s.to) (sym same) s.there))
head_opens whole i path bytes a b (Some h) same s finds opens moves =
    let there = subst (λ (bs : List ℕ). IsEncodedAt i bs a.place s.to) (sym same) s.there in
    let o = opened h i s.to b (opens i s.to there) in
    let now : b.bytes ≡ bytes = moves.same ∙ same in
    let within : b.place ≤ length a.bytes = subst (λ (bs : List ℕ). b.place ≤ length bs) moves.same moves.within in
    record {
      at = a.place;
      head = h;
      headed = subst (λ (bs : List ℕ). Lies (IsEncodingOfHead h) bs a.place b.place) same
          (headed h a b finds moves.forward within);
      end = o.0;
      extents = subst (λ (bs : List ℕ). ItemsLie (parts_of i) bs b.place o.0) now o.1;
      leads = s.leads;
    }

-- after an item was skipped
pub passed_there : {found : Bool} (x : Item) (to : ℕ) (a : CursorState) (bytes : List ℕ) (place : ℕ) (b : CursorState)
    → a.bytes ≡ bytes → a.place ≡ place → IsEncodedAt x bytes place to
    → ((y : Item) (end : ℕ) → IsEncodedAt y a.bytes a.place end → Passes end a b found) → b.place ≡ to
passed_there x to a bytes place b same at there passes =
    let here = subst (λ (n : ℕ). IsEncodedAt x bytes n to) (sym at) there in
    (passes x to (subst (λ (bs : List ℕ). IsEncodedAt x bs a.place to) (sym same) here)).place

-- the next part
module _ {whole i : Item} {path : List Step} {bytes : List ℕ} {first : ℕ} (h : IsOpened whole path i bytes first)
    (k place : ℕ) (p : PassedItems (parts_of i) k bytes first place h.end) (x : Item)
    (at : slice_get (parts_of i) k ≡ Some x) where
  abbrev rest : (ys : List Item) × (p.after ≡ x ∷ ys)
  rest =
      let there : slice_get (p.before ++ p.after) (length p.before) ≡ Some x = rw (p.count, ← p.whole) at in
      ahead_at p.before p.after x there

  abbrev ahead : ItemsLie (x ∷ rest.0) bytes place h.end
  ahead = subst (λ (ys : List Item). ItemsLie ys bytes place h.end) rest.1 p.ahead

  abbrev pub next_end : ℕ
  next_end = ahead.0

  pub next_there : IsEncodedAt x bytes place next_end
  next_there = ahead.1.0

  pub next_passed : (to : ℕ) → to ≡ next_end → PassedItems (parts_of i) (k + 1) bytes first to h.end
  next_passed to is = subst (λ (n : ℕ). PassedItems (parts_of i) (k + 1) bytes first n h.end) (sym is) (record {
    before = p.before ++ x ∷ [];
    after = rest.0;
    whole = p.whole ∙ ap (λ (ys : List Item). p.before ++ ys) rest.1 ∙ sym (append_assoc p.before (x ∷ []) rest.0);
    count = omega (arith, p.count, length-append p.before (x ∷ []));
    passed = one_more p.before x bytes first place next_end p.passed next_there;
    ahead = ahead.1.1;
  })

  pub next_stands : (s : Step) (longer : List Step) → part_index s ≡ k → longer ≡ path ++ s ∷ []
      → Stands whole longer x bytes place
  next_stands s longer index is = subst (λ (q : List Step). Stands whole q x bytes place) (sym is) (record {
    to = next_end;
    there = next_there;
    leads = λ more from end l.
        subst (λ (q : List Step). LiesAlong q whole bytes 0 from end) (sym (append_assoc path (s ∷ []) more))
        (h.leads (s ∷ more) from end (
          x,
          place,
          record {
            head = h.head;
            first = first;
            headed = h.headed;
            before = p.before;
            after = rest.0;
            parts = p.whole ∙ ap (λ (ys : List Item). p.before ++ ys) rest.1;
            count = p.count ∙ sym index;
            passed = p.passed;
          },
          l,
        ));
  })

-- ---- which part is next

pub first_of_rest : {X : Type 0} (xs : List X) (k : ℕ) (x : X) (rest : List X) → drop k xs ≡ x ∷ rest → slice_get xs k ≡ Some x
first_of_rest [] zero x rest e = absurd cc
first_of_rest [] (suc k) x rest e = absurd cc
first_of_rest (y ∷ ys) zero x rest e = cc
first_of_rest (y ∷ ys) (suc k) x rest e = first_of_rest ys k x rest e

pub element_next : (i : Item) (xs : List Item) (k : ℕ) (x : Item) (rest : List Item) → parts_of i ≡ xs
    → drop k xs ≡ x ∷ rest → slice_get (parts_of i) k ≡ Some x
element_next i xs k x rest is e = ap (λ (ys : List Item). slice_get ys k) is ∙ first_of_rest xs k x rest e

pub key_next : (i : Item) (ms : Members) (k : ℕ) (m : Item × Item) (rest : Members) → parts_of i ≡ turns ms
    → drop k ms ≡ m ∷ rest → slice_get (parts_of i) (k + k) ≡ Some m.0
key_next i ms k m rest is e =
    ap (λ (ys : List Item). slice_get ys (k + k)) is ∙ turn_key ms k
    ∙ ap (option_map (λ (p : Item × Item). p.0)) (first_of_rest ms k m rest e)

pub value_next : (i : Item) (ms : Members) (k : ℕ) (m : Item × Item) (rest : Members) → parts_of i ≡ turns ms
    → drop k ms ≡ m ∷ rest → slice_get (parts_of i) (k + k + 1) ≡ Some m.1
value_next i ms k m rest is e =
    let next : k + k + 1 ≡ suc (k + k) = omega arith in
    ap (λ (n : ℕ). slice_get (parts_of i) n) next ∙ ap (λ (ys : List Item). slice_get ys (suc (k + k))) is ∙ turn_value ms k
    ∙ ap (option_map (λ (p : Item × Item). p.1)) (first_of_rest ms k m rest e)

pub odd_index : (n k : ℕ) → k ≡ suc (n + n) → k ≡ n + n + 1
odd_index n k e = omega (arith, e)

-- the next pair
pub pair_stands : {whole i : Item} {path : List Step} {bytes : List ℕ} {first : ℕ} (h : IsOpened whole path i bytes first)
    (n place : ℕ) (p : PassedItems (parts_of i) (n + n) bytes first place h.end) (m : Item × Item)
    → slice_get (parts_of i) (n + n) ≡ Some m.0 → slice_get (parts_of i) (n + n + 1) ≡ Some m.1
    → PairStands whole path n m bytes place
unfolding next_stands
pair_stands h n place p m key_at value_at =
    let end = next_end h (n + n) place p m.0 key_at in
    let passed = next_passed h (n + n) place p m.0 key_at end refl in
    record {
      key_stands = next_stands h (n + n) place p m.0 key_at (key n) _ refl refl;
      value_stands = λ s index.
          next_stands h (n + n + 1) end passed m.1 value_at s _ (odd_index n (part_index s) index) refl;
    }

-- a step leads to the value of the pair at its index
naming_leads : (es : List Entry) (n : ℕ) (naming : Naming)
    → IfSome (step_by es n naming) (λ s. part_index s.0 ≡ suc (n + n))
naming_leads es n (row k) = refl
naming_leads es n unknown = tt
naming_leads es n wrong = tt

pub steps_lead : (k : Keys) (n : ℕ) (label : Item) → IfSome (steps_by k n label) (λ s. part_index s.0 ≡ suc (n + n))
steps_lead keys.Bytes n label = refl
steps_lead (keys.Names t) n label =
    let es = map entry_of t.rows.now in naming_leads es n (names t.is_numbered es label)
