-- What lists, maps and records blame, step by step.
use Rattle.passkey_kinds.proofs.Common.{item_of-Array, elements-items_of, Item, Members, Naming, row, names, find, Entry, row_or_unknown, bytes_from, entry_of, item_of, array, unwrap_or, elements_in, members_in, ◌≡◌, ◌∙◌, ◌<◌, ◌+◌, ◌==◌, ℕ, suc, arith, add-one, Bool, true, false, List, [], ◌∷◌, ◌++◌, length, map, drop, get_or, set, replicate, first_missing, get_or-set_same, get_or-set_other, Option, Some, None, is_some, option_map, refl, sym, ap, subst, if◌then◌else◌, Result, Ok, Err, option_and_then}
use Rattle.std.proofs.Common.{Bor, IfOk, append_assoc, append-nil}
use Rattle.std.proofs.lemmas.List.{map-append}
use Rattle.std.proofs.lemmas.Bool.Decides.{nat_tests}
use Rattle.passkey_explain.specs.Blame.{Blame, Step, wants, at_fault, under, element, member, value, key, step_of}
use Rattle.passkey_explain.specs.Blaming.{blamed, blamed_row, accepts_in, accepted_by, blame_elements, list_blame, blame_entries, map_blame, blame_from, blame_one, name_at, seen_with, record_blame}
use Rattle.passkey_explain.specs.Next.{blame_next, IntoRow, IsRecordAt, NextIs}
use Rattle.passkey_explain.specs.declared.blame.Reason.{Reason}
use Rattle.passkey_explain.specs.declared.blame.Step.{Step as CodeStep}
use Rattle.passkey_explain.specs.declared.descent.Next.{Next}
use Rattle.passkey_cbor.specs.declared.value.Value.{Value}
use Rattle.passkey_kinds.proofs.Members.{none_marked}
use Rattle.passkey_kinds.specs.Record.{unmarked}
use Rattle.passkey_kinds.specs.Look.{Looks, LooksAs, HasForm}
use Rattle.passkey_kinds.specs.Shape.{Shape, leaf, record_of, Rows, no_rows, Tested, reached, part_of, row_in, entries_in}
use Rattle.passkey_kinds.specs.declared.look.Look.{Look}
use Rattle.passkey_kinds.specs.declared.wanted.Wanted.{Wanted}
use Rattle.passkey_kinds.specs.declared.rows.Row.{Row}
use Rattle.passkey_kinds.specs.declared.fault.Fault.TheVariants.{NotAMap}
use Rattle.passkey_memory.specs.declared.OutOfMemory.{OutOfMemory}
use Rattle.passkey_cbor.specs.Item as item
use Rattle.passkey_explain.specs.declared.descent.Next.TheVariants as next
use Rattle.passkey_kinds.specs.Shape as shape
use Rattle.passkey_kinds.specs.declared.look.Form.TheVariants as form
use Rattle.passkey_kinds.specs.declared.wanted.Wanted.TheVariants as wanted

pub some_same : {X : Type 0} {x y : X} → Some x ≡ Some y → x ≡ y
some_same {X} {x} e = ap (λ (o : Option X). unwrap_or o x) e

-- ---- one more step on the way

there_is : {X : Type 0} (o : Option X) → is_some o ≡ true → (x : X) × (o ≡ Some x)
there_is (Some x) e = (x, refl)
there_is None e = absurd cc

some_of : (o : Option Tested) → option_and_then (reached []) o ≡ o
some_of (Some t) = refl
some_of None = refl

after_part : (ks : List ℕ) (n : ℕ) (t : Tested)
    → ((u : Tested) → reached ks u ≡ Some t → reached (ks ++ n ∷ []) u ≡ part_of n t.shape) → (o : Option Tested)
    → option_and_then (reached ks) o ≡ Some t → option_and_then (reached (ks ++ n ∷ [])) o ≡ part_of n t.shape
after_part ks n t rest (Some u) h = rest u h
after_part ks n t rest None h = absurd cc

pub reached_further : (ns : List ℕ) (n : ℕ) (root t : Tested) → reached ns root ≡ Some t
    → reached (ns ++ n ∷ []) root ≡ part_of n t.shape
reached_further [] n root t e =
    let same : root ≡ t = some_same e in
    some_of (part_of n root.shape) ∙ ap (λ (x : Tested). part_of n x.shape) same
reached_further (k ∷ ks) n root t e =
    after_part ks n t (λ u. reached_further ks n u t) (part_of k root.shape) e

-- looking at a part
pub look_accepts : (way : List ℕ) (root t : Tested) (i : Item) (r : Result Look OutOfMemory) (l : Look)
    → reached way root ≡ Some t
    → Looks (reached way root) i r → r ≡ Ok l → l.is_accepted ≡ t.accepts i
look_accepts way root t i r l at looks is =
    let there : Looks (Some t) i (Ok l) = rw (at, is) at looks in
    there.accepted

-- ---- the shape of what is kept, where any item is tolerated

abbrev pub bare : Shape → Shape
bare (shape.tolerant a s) = bare s
bare s = s

parts_of_bare : (s : Shape) (n : ℕ) → part_of n s ≡ part_of n (bare s)
parts_of_bare (shape.tolerant a s) n = parts_of_bare s n
parts_of_bare _ n = refl

blamed_by_bare : (s : Shape) (i : Item) → blamed s i ≡ blamed (bare s) i
blamed_by_bare (shape.tolerant a s) i = blamed_by_bare s i
blamed_by_bare _ i = refl

pub parts_like : (s : Shape) {x : Shape} → bare s ≡ x → (n : ℕ) → part_of n s ≡ part_of n x
parts_like s is n = parts_of_bare s n ∙ ap (part_of n) is

pub blamed_like : (s : Shape) {x : Shape} → bare s ≡ x → (i : Item) → blamed s i ≡ blamed x i
blamed_like s is i = blamed_by_bare s i ∙ ap (λ (y : Shape). blamed y i) is

pub look_there : (way : List ℕ) (root t : Tested) (i : Item) (r : Result Look OutOfMemory) (l : Look)
    → reached way root ≡ Some t → Looks (reached way root) i r → r ≡ Ok l → LooksAs t i l
look_there way root t i r l at looks is = rw (at, is) at looks

pub leaf_blamed : (s : Shape) (w : Wanted) → HasForm s (form.Leaf w) → (i : Item) → blamed s i ≡ wants w
leaf_blamed (leaf v) w h i = ap wants (sym h)
leaf_blamed (shape.list a x) w h i = absurd h
leaf_blamed (shape.map a x) w h i = absurd h
leaf_blamed (record_of b rows) w h i = absurd h
leaf_blamed (shape.tolerant a x) w h i = leaf_blamed x w h i

-- the form that was seen is the shape's
pub is_list : (s : Shape) → HasForm s form.List → (a : Item → Bool) × (x : Shape) × (bare s ≡ shape.list a x)
is_list (shape.list a x) h = (a, x, refl)
is_list (leaf w) h = absurd h
is_list (shape.map a x) h = absurd h
is_list (record_of b rows) h = absurd h
is_list (shape.tolerant a x) h = is_list x h

pub is_map : (s : Shape) → HasForm s form.Map → (a : Item → Bool) × (x : Shape) × (bare s ≡ shape.map a x)
is_map (shape.map a x) h = (a, x, refl)
is_map (leaf w) h = absurd h
is_map (shape.list a x) h = absurd h
is_map (record_of b rows) h = absurd h
is_map (shape.tolerant a x) h = is_map x h

-- ---- lists and maps

module _ (accepts : Item → Bool) (of : Item → Blame) (n : ℕ) where
  pub element_accepted : (x : Item) (xs all : List Item) → all ≡ x ∷ xs → accepts x ≡ true
      → blame_elements accepts of n all ≡ blame_elements accepts of (n + 1) xs
  element_accepted x xs all at good = rw (at, good, add-one n) refl

  pub element_refused : (x : Item) (xs all : List Item) → all ≡ x ∷ xs → accepts x ≡ false
      → blame_elements accepts of n all ≡ under (element n) (of x)
  element_refused x xs all at bad = rw (at, bad) refl

  pub entry_accepted : (m : Item × Item) (ms all : Members) → all ≡ m ∷ ms → is_some (bytes_from m.0) ≡ true
      → accepts m.1 ≡ true → blame_entries accepts of n all ≡ blame_entries accepts of (n + 1) ms
  entry_accepted m ms all at first good = rw (at, first, good, add-one n) refl

  pub key_refused : (m : Item × Item) (ms all : Members) → all ≡ m ∷ ms → is_some (bytes_from m.0) ≡ false
      → blame_entries accepts of n all ≡ under (key n) (wants wanted.Bytes)
  key_refused m ms all at bad = rw (at, bad) refl

  pub value_refused : (m : Item × Item) (ms all : Members) → all ≡ m ∷ ms → is_some (bytes_from m.0) ≡ true
      → accepts m.1 ≡ false → blame_entries accepts of n all ≡ under (value n) (of m.1)
  value_refused m ms all at first bad = rw (at, first, bad) refl

-- what is to blame is in a part of a list or of a map
same_parts : (t : Tested) (s : Shape) (i : Item) (b : Blame) (n : Next) → ((k : ℕ) → (u : Tested)
    × ((part_of k t.shape ≡ Some u) × (u.shape ≡ s))) → blamed t.shape i ≡ b → blame_next (λ k. blamed s) n ≡ b → NextIs t i n
same_parts t s i b (next.Here r) parts is e = is ∙ sym e
same_parts t s i b (next.Key k r) parts is e = is ∙ sym e
same_parts t s i b (next.Into step k v) parts is e =
    let p = parts k in
    (p.0, (p.1.0, is ∙ sym e ∙ ap (λ (x : Shape). under (step_of step) (blamed x (item_of v.now))) (sym p.1.1)))

list_of_elements : (a : Item → Bool) (of : Item → Blame) (i : Item) (xs : List Item) → elements_in i ≡ Some xs
    → list_blame a of i ≡ blame_elements a of 0 xs
unfolding list_blame
list_of_elements a of (array is) xs e = ap (blame_elements a of 0) (some_same e)
list_of_elements a of _ xs e = absurd cc

pub no_list : (t : Tested) (i : Item) → HasForm t.shape form.List → elements_in i ≡ None → blamed t.shape i ≡ wants wanted.Array
unfolding list_blame
no_list t i h e =
    let l = is_list t.shape h in blamed_like t.shape l.2 i ∙ without l.0 (blamed l.1) i e where
      without : (a : Item → Bool) (of : Item → Blame) (i : Item) → elements_in i ≡ None → list_blame a of i ≡ wants wanted.Array
      without a of (array is) e = absurd cc
      without a of _ e = refl

pub list_next : (t : Tested) (i : Item) (xs : List Item) (way inner : List ℕ) (root : Tested) (r : Result Next OutOfMemory)
    → reached way root ≡ Some t → inner ≡ way ++ 0 ∷ [] → elements_in i ≡ Some xs → HasForm t.shape form.List
    → ((u : Tested) → reached inner root ≡ Some u → (of : Item → Blame)
    → IfOk r (λ n. blame_next (λ k. of) n ≡ blame_elements u.accepts of 0 xs)) → IfOk r (NextIs t i)
list_next t i xs way inner root (Err e) at further is h told = tt
list_next t i xs way inner root (Ok n) at further is h told =
    let l = is_list t.shape h in
    let u : Tested = record { accepts = l.0; shape = l.1 } in
    let there : reached inner root ≡ Some u =
    ap (λ (w : List ℕ). reached w root) further ∙ reached_further way 0 root t at ∙ parts_like t.shape l.2 0 in
    same_parts t l.1 i (blame_elements l.0 (blamed l.1) 0 xs) n (λ k. (u, (parts_like t.shape l.2 k, refl)))
    (blamed_like t.shape l.2 i ∙ list_of_elements l.0 (blamed l.1) i xs is) (told u there (blamed l.1))

map_of_members : (a : Item → Bool) (of : Item → Blame) (i : Item) (ms : Members) → members_in i ≡ Some ms
    → map_blame a of i ≡ blame_entries a of 0 ms
unfolding map_blame
map_of_members a of (item.map ps) ms e = ap (blame_entries a of 0) (some_same e)
map_of_members a of _ ms e = absurd cc

pub no_map : (t : Tested) (i : Item) → HasForm t.shape form.Map → members_in i ≡ None → blamed t.shape i ≡ wants wanted.Map
unfolding map_blame
no_map t i h e =
    let l = is_map t.shape h in blamed_like t.shape l.2 i ∙ without l.0 (blamed l.1) i e where
      without : (a : Item → Bool) (of : Item → Blame) (i : Item) → members_in i ≡ None → map_blame a of i ≡ wants wanted.Map
      without a of (item.map ps) e = absurd cc
      without a of _ e = refl

pub map_next : (t : Tested) (i : Item) (ms : Members) (way inner : List ℕ) (root : Tested) (r : Result Next OutOfMemory)
    → reached way root ≡ Some t → inner ≡ way ++ 0 ∷ [] → members_in i ≡ Some ms → HasForm t.shape form.Map
    → ((u : Tested) → reached inner root ≡ Some u → (of : Item → Blame)
    → IfOk r (λ n. blame_next (λ k. of) n ≡ blame_entries u.accepts of 0 ms)) → IfOk r (NextIs t i)
map_next t i ms way inner root (Err e) at further is h told = tt
map_next t i ms way inner root (Ok n) at further is h told =
    let l = is_map t.shape h in
    let u : Tested = record { accepts = l.0; shape = l.1 } in
    let there : reached inner root ≡ Some u =
    ap (λ (w : List ℕ). reached w root) further ∙ reached_further way 0 root t at ∙ parts_like t.shape l.2 0 in
    same_parts t l.1 i (blame_entries l.0 (blamed l.1) 0 ms) n (λ k. (u, (parts_like t.shape l.2 k, refl)))
    (blamed_like t.shape l.2 i ∙ map_of_members l.0 (blamed l.1) i ms is) (told u there (blamed l.1))

-- ---- records

found_there : (p : Entry → Bool) (n : ℕ) (rs : Rows) → row_or_unknown (find p (entries_in rs)) ≡ row n
    → is_some (row_in rs n) ≡ true
found_there p n no_rows e = absurd cc
found_there p n (shape.row e a s rs) h = grind (arith, nat_tests, found_there p n rs)

pub named_there : (is_numbered : Bool) (rs : Rows) (n : ℕ) (label : Item) → names is_numbered (entries_in rs) label ≡ row n
    → is_some (row_in rs n) ≡ true
named_there is_numbered rs n label e = grind (arith, found_there)

pub blamed_by_row : (rs : Rows) (n : ℕ) (u : Tested) (i : Item) → row_in rs n ≡ Some u → blamed_row rs n i ≡ blamed u.shape i
blamed_by_row no_rows n u i = λ e. absurd cc
blamed_by_row (shape.row e a s rs) n u i = elim (e.number == n)
    as (λ b. (if b then Some (record { accepts = a; shape = s }) else row_in rs n) ≡ Some u
    → (if b then blamed s i else blamed_row rs n i) ≡ blamed u.shape i) [
      | true ↦ λ h. (let same : record { accepts = a; shape = s } ≡ u = some_same h in ap (λ (t : Tested). blamed t.shape i) same)
      | false ↦ blamed_by_row rs n u i
    ]

module _ {way : List ℕ} {root : Tested} {rs : Rows} {is_numbered : Bool} {es : List Entry}
    (h : IsRecordAt way root rs is_numbered es) (n : ℕ) (label : Item) (naming : names is_numbered es label ≡ row n) where
  pub row_there : is_some (row_in rs n) ≡ true
  row_there = named_there is_numbered rs n label
      (subst (λ (x : List Entry). names is_numbered x label ≡ row n) h.same naming)

  pub row_reached : (inner : List ℕ) → inner ≡ way ++ n ∷ []
      → (u : Tested) × ((row_in rs n ≡ Some u) × (reached inner root ≡ Some u))
  row_reached inner is =
      let u = there_is (row_in rs n) row_there in
      let at : reached inner root ≡ Some u.0 =
      ap (λ (w : List ℕ). reached w root) is ∙ reached_further way n root h.at h.reaches
      ∙ h.parts n ∙ u.1 in
      (u.0, (u.1, at))

  pub row_accepts : (i : Item) (inner : List ℕ) (r : Result Look OutOfMemory) (l : Look) → inner ≡ way ++ n ∷ []
      → Looks (reached inner root) i r → r ≡ Ok l → l.is_accepted ≡ accepts_in rs n i
  row_accepts i inner r l is looks ok =
      let u = row_reached inner is in
      look_accepts inner root u.0 i r l u.1.1 looks ok ∙ sym (ap (λ (o : Option Tested). accepted_by o i) u.1.0)

module _ (es : List Entry) (accept : ℕ → Item → Bool) (of : ℕ → Item → Blame) (is_numbered : Bool) (n : ℕ) where
  pub pair_passes : (m : Item × Item) (ms all : Members) (seen more : ℕ → Bool) → all ≡ m ∷ ms
      → None ≡ blame_one es accept of n (names is_numbered es m.0) m.1 seen
      → ((k : ℕ) → more k ≡ seen_with (names is_numbered es m.0) seen k)
      → blame_from es accept of is_numbered n all seen ≡ blame_from es accept of is_numbered (n + 1) ms more
  pair_passes m ms all seen more at none marks =
      rw (at, sym none, add-one n) (λ j. blame_from es accept of is_numbered (suc n) ms (λ k. sym (marks k) j))

  pub pair_blamed : (m : Item × Item) (ms all : Members) (seen : ℕ → Bool) (b : Blame) → all ≡ m ∷ ms
      → Some b ≡ blame_one es accept of n (names is_numbered es m.0) m.1 seen
      → b ≡ blame_from es accept of is_numbered n all seen
  pair_blamed m ms all seen b at e = rw (at, sym e) refl

  pub pairs_begin : (ms rest : Members) (marks : List Bool) → rest ≡ ms → marks ≡ unmarked
      → blame_from es accept of is_numbered n ms (λ k. false)
      ≡ blame_from es accept of is_numbered n rest (λ k. get_or marks k false)
  pairs_begin ms rest marks whole none =
      rw (whole, none) (λ j. blame_from es accept of is_numbered n ms (λ k. sym (none_marked k) j))

pub marked_with : (marks more : List Bool) (n : ℕ) (naming : Naming) → naming ≡ row n → n < length marks
    → more ≡ set marks n true → (k : ℕ) → get_or more k false ≡ seen_with naming (λ m. get_or marks m false) k
marked_with marks more n naming names_it within e k =
    rw (names_it, e) (grind (arith, get_or-set_same, get_or-set_other))

module _ (es : List Entry) (accept : ℕ → Item → Bool) (of : ℕ → Item → Blame) (k n : ℕ) (naming : Naming) (i : Item)
    (seen : ℕ → Bool) (is : naming ≡ row n) (new : seen n ≡ false) where
  pub one_passes : accept n i ≡ true → None ≡ blame_one es accept of k naming i seen
  one_passes good = rw (is, new, good) refl

  pub one_refused : (name : List ℕ) → name ≡ name_at es n → accept n i ≡ false
      → Some (under (member k n name) (of n i)) ≡ blame_one es accept of k naming i seen
  one_refused name named bad = rw (is, new, bad, named) refl

-- the form that was seen is the shape's
pub is_record : (s : Shape) (b : Bool) (rs : Bor (List Row)) → HasForm s (form.Record b rs) → (rows : Rows)
    × (bare s ≡ record_of b rows) × (map entry_of rs.now ≡ entries_in rows)
is_record (record_of c rows) b rs h = (rows, ap (λ (x : Bool). record_of x rows) (sym h.0), h.1)
is_record (leaf w) b rs h = absurd h
is_record (shape.list a x) b rs h = absurd h
is_record (shape.map a x) b rs h = absurd h
is_record (shape.tolerant a x) b rs h = is_record x b rs h

-- what is to blame is in the value of a row
into_row : (t : Tested) (rows : Rows) (i : Item) (n : Next) → ((k : ℕ) → part_of k t.shape ≡ row_in rows k) → IntoRow rows n
    → blame_next (blamed_row rows) n ≡ blamed t.shape i → NextIs t i n
into_row t rows i (next.Here r) is into e = sym e
into_row t rows i (next.Key k r) is into e = sym e
into_row t rows i (next.Into step k v) is into e =
    let u = there_is (row_in rows k) into in
    (u.0, (is k ∙ u.1, sym e ∙ ap (under (step_of step)) (blamed_by_row rows k u.0 (item_of v.now) u.1)))

record_of_members : (b : Bool) (rows : Rows) (es : List Entry) (i : Item) (ms : Members) → es ≡ entries_in rows
    → members_in i ≡ Some ms
    → blamed (record_of b rows) i ≡ blame_from es (accepts_in rows) (blamed_row rows) b 0 ms (λ n. false)
unfolding record_blame
record_of_members b rows es (item.map ps) ms same e =
    rw same (ap (λ (x : Members). blame_from (entries_in rows) (accepts_in rows) (blamed_row rows) b 0 x (λ n. false))
    (some_same e))
record_of_members b rows es _ ms same e = absurd cc

pub record_next : (t : Tested) (b : Bool) (rs : Bor (List Row)) (i : Item) (ms : Members) (way : List ℕ) (root : Tested)
    (r : Result Next OutOfMemory) → reached way root ≡ Some t → members_in i ≡ Some ms → HasForm t.shape (form.Record b rs)
    → ((rows : Rows) → IsRecordAt way root rows b (map entry_of rs.now) → (of : ℕ → Item → Blame) → IfOk r (λ n. blame_next of n
    ≡ blame_from (map entry_of rs.now) (accepts_in rows) of b 0 ms (λ k. false)))
    → ((rows : Rows) → IsRecordAt way root rows b (map entry_of rs.now) → IfOk r (IntoRow rows)) → IfOk r (NextIs t i)
record_next t b rs i ms way root (Err e) at is h told into = tt
record_next t b rs i ms way root (Ok n) at is h told into =
    let l = is_record t.shape b rs h in
    let there : IsRecordAt way root l.0 b (map entry_of rs.now) =
    record { at = t; reaches = at; parts = parts_like t.shape l.1; same = l.2 } in
    let same = blamed_like t.shape l.1 i ∙ record_of_members b l.0 (map entry_of rs.now) i ms l.2 is in
    into_row t l.0 i n (parts_like t.shape l.1) (into l.0 there) (told l.0 there (blamed_row l.0) ∙ sym same)

pub no_record : (t : Tested) (b : Bool) (rs : Bor (List Row)) (i : Item) → HasForm t.shape (form.Record b rs)
    → members_in i ≡ None → blamed t.shape i ≡ at_fault NotAMap
unfolding record_blame
no_record t b rs i h e =
    let l = is_record t.shape b rs h in blamed_like t.shape l.1 i ∙ without b l.0 i e where
      without : (b : Bool) (rows : Rows) (i : Item) → members_in i ≡ None → blamed (record_of b rows) i ≡ at_fault NotAMap
      without b rows (item.map ps) e = absurd cc
      without b rows _ e = refl

-- ---- a whole path

-- The path leads from the whole data item to one in it, and the way from the type of the whole, `top`, to the type that
-- refuses it.
pub record Descends (root top : Tested) (whole : Item) (path : List Step) (way : List ℕ) (here : Item) : Type 0 where
  pub at : Tested
  pub reaches : reached way root ≡ Some at
  pub same : blamed top.shape whole
      ≡ record { path = path ++ (blamed at.shape here).path; reason = (blamed at.shape here).reason }

pub descent_begins : (root top : Tested) (whole : Item) (p : List CodeStep) (from way : List ℕ) → p ≡ [] → way ≡ from
    → reached from root ≡ Some top → Descends root top whole (map step_of p) way whole
descent_begins root top whole p from way empty same at =
    subst (λ (x : List CodeStep). Descends root top whole (map step_of x) way whole) (sym empty)
    (record { at = top; reaches = ap (λ (w : List ℕ). reached w root) same ∙ at; same = refl })

pub one_more_step : (p q : List CodeStep) (s : CodeStep) → q ≡ p ++ s ∷ [] → map step_of q ≡ map step_of p ++ step_of s ∷ []
one_more_step p q s e = ap (map step_of) e ∙ map-append step_of p (s ∷ [])

-- the length of what is left of the path
abbrev pub left_of : Option Tested → Item → ℕ
left_of (Some t) i = length (blamed t.shape i).path
left_of None i = 0

module _ {root top : Tested} {whole : Item} {p : List Step} {way : List ℕ} {here : Item}
    (h : Descends root top whole p way here)
    (n : Next) (told : (t : Tested) → reached way root ≡ Some t → NextIs t here n) where
  pub ends_here : (r : Reason) → n ≡ next.Here r → record { path = p; reason = r } ≡ blamed top.shape whole
  ends_here r is =
      let e : blamed h.at.shape here ≡ record { path = []; reason = r } =
      subst (NextIs h.at here) is (told h.at h.reaches) in
      sym (h.same ∙ ap (λ (x : Blame). record { path = p ++ x.path; reason = x.reason }) e
      ∙ ap (λ (q : List Step). record { path = q; reason = r }) (append-nil p))

  pub ends_at_key : (k : ℕ) (r : Reason) → n ≡ next.Key k r → (q : List Step) → q ≡ p ++ key k ∷ []
      → record { path = q; reason = r } ≡ blamed top.shape whole
  ends_at_key k r is q further =
      let e : blamed h.at.shape here ≡ under (key k) (record { path = []; reason = r }) =
      subst (NextIs h.at here) is (told h.at h.reaches) in
      sym (h.same ∙ ap (λ (x : Blame). record { path = p ++ x.path; reason = x.reason }) e
      ∙ ap (λ (ps : List Step). record { path = ps; reason = r }) (sym further))

  module _ (s : CodeStep) (m : ℕ) (v : Bor Value) (is : n ≡ next.Into s m v) where
    there : NextIs h.at here (next.Into s m v)
    there = subst (NextIs h.at here) is (told h.at h.reaches)

    reaches_part : (w : List ℕ) → w ≡ way ++ m ∷ [] → reached w root ≡ Some there.0
    reaches_part w longer =
        ap (λ (x : List ℕ). reached x root) longer ∙ reached_further way m root h.at h.reaches ∙ there.1.0

    pub goes_into : (q : List Step) (w : List ℕ) → q ≡ p ++ step_of s ∷ [] → w ≡ way ++ m ∷ []
        → Descends root top whole q w (item_of v.now)
    goes_into q w further longer =
        let b = blamed there.0.shape (item_of v.now) in
        let whole_path : p ++ (step_of s ∷ b.path) ≡ q ++ b.path =
        sym (append_assoc p (step_of s ∷ []) b.path) ∙ ap (λ (x : List Step). x ++ b.path) (sym further) in
        record {
          at = there.0;
          reaches = reaches_part w longer;
          same = h.same ∙ ap (λ (x : Blame). record { path = p ++ x.path; reason = x.reason }) there.1.1
              ∙ ap (λ (x : List Step). record { path = x; reason = b.reason }) whole_path;
        }

    pub less_left : (w : List ℕ) → w ≡ way ++ m ∷ []
        → left_of (reached w root) (item_of v.now) < left_of (reached way root) here
    less_left w longer =
        let l : length (blamed h.at.shape here).path ≡ suc (length (blamed there.0.shape (item_of v.now)).path) =
        ap (λ (x : Blame). length x.path) there.1.1 in
        let now : left_of (reached w root) (item_of v.now) ≡ length (blamed there.0.shape (item_of v.now)).path =
        ap (λ o. left_of o (item_of v.now)) (reaches_part w longer) in
        let before : left_of (reached way root) here ≡ length (blamed h.at.shape here).path =
        ap (λ o. left_of o here) h.reaches in
        omega (arith, l, now, before)

-- ---- what the prover needs for the elements of an array in memory

pub ruleset in_array = (item_of-Array, elements-items_of)
