-- What is blamed is what is refused.
use Rattle.passkey_kinds.proofs.Common.{Fields, Member, Members, Naming, Progress, row, unknown, wrong, entries, table_of, rows_of, accepts_at, named, names, first_missing, unless_missing, one_more, read_from, record_kind, result_ok, result_and_then, put_at, ◌||◌, read_item, bytes_from, ◌≡◌, ◌∙◌, ℕ, suc, ◌==◌, Bool, true, false, List, [], ◌∷◌, Option, Some, None, is_some, option_map, slice_get, unwrap_or, Result, Ok, Err, inl, inr, refl, sym, ap, subst, if◌then◌else◌}
use Rattle.passkey_explain.proofs.BlameLaws.{AreLeft, first_left, others_left, all_left}
use Rattle.passkey_explain.proofs.Blames.{named_there, some_same}
use Rattle.passkey_kinds.proofs.Looks.{same_entries}
use Rattle.passkey_kinds.specs.Kind.{accepts as test_of}
use Rattle.std.specs.Prelude.{IfSome}
use Rattle.passkey_explain.specs.Blame.{Blame, Step, wants, at_fault, under, element, member, value, key}
use Rattle.passkey_explain.specs.declared.blame.Reason.{Reason}
use Rattle.passkey_explain.specs.Blaming.{blamed, blamed_row, accepts_in, accepted_by, blame_elements, list_blame, blame_entries, map_blame, blame_from, blame_one, blame_missing, name_at, seen_with, record_blame}
use Rattle.passkey_explain.specs.Refusing.{IsRefusedAlong, IsFaultOf}
use Rattle.passkey_kinds.specs.Base.{Item, array, elements, members}
use Rattle.passkey_kinds.specs.Look.{tested}
use Rattle.passkey_kinds.specs.RecordReading.{nested, shape_of, shapes_of}
use Rattle.passkey_kinds.specs.Shape.{Shape, leaf, record_of, Rows, no_rows, Tested, entries_in, row_in}
use Rattle.passkey_kinds.specs.declared.fault.Fault.{Fault}
use Rattle.passkey_cbor.specs.Item as item
use Rattle.passkey_kinds.specs.Shape as shape
use Rattle.passkey_kinds.specs.declared.fault.Fault.TheVariants as fault
use Rattle.passkey_explain.specs.declared.blame.Reason.TheVariants as reason
use Rattle.passkey_kinds.specs.declared.wanted.Wanted.TheVariants as wanted

-- ---- the fault of a record

module _ {P : Type 0} (t : Fields P) (of : ℕ → Item → Blame) where
  missing_fault : (o : Option ℕ) (made : P) (f : Fault) → unless_missing o made ≡ Err f → IsFaultOf f (blame_missing o)
  missing_fault (Some n) made f e = let same : fault.Missing n ≡ f = cc in ap reason.Fault same
  missing_fault None made f e = absurd cc

  abbrev from : ℕ → Members → (ℕ → Bool) → Blame
  from = blame_from (entries (table_of t)) (accepts_at (rows_of t.rows)) of t.is_numbered

  row_fault : (k n : ℕ) (i : Item) (ms : Members) (s : Progress P) (f : Fault)
      → ((next : Progress P) → read_from t ms next ≡ Err f → IsFaultOf f (from (suc k) ms next.seen))
      → (seen accepted : Bool)
      → result_and_then (λ n. read_from t ms n) (if seen then Err (fault.Repeated n) else (if accepted
      then Ok (record { seen = λ j. (j == n) || s.seen j; made = put_at t.rows n i s.made }) else Err (fault.Refused n)))
      ≡ Err f
      → IsFaultOf f (unwrap_or (if seen then Some (under (key k) (at_fault (fault.Repeated n)))
      else option_map (under (member k n (name_at (entries (table_of t)) n))) (if accepted then None else Some (of n i)))
      (from (suc k) ms (seen_with (row n) s.seen)))
  row_fault k n i ms s f rest true accepted e = let same : fault.Repeated n ≡ f = cc in ap reason.Fault same
  row_fault k n i ms s f rest false true e =
      rest (record { seen = λ j. (j == n) || s.seen j; made = put_at t.rows n i s.made }) e
  row_fault k n i ms s f rest false false e = let same : fault.Refused n ≡ f = cc in sym same

  one_fault : (k : ℕ) (naming : Naming) (i : Item) (ms : Members) (s : Progress P) (f : Fault)
      → ((next : Progress P) → read_from t ms next ≡ Err f → IsFaultOf f (from (suc k) ms next.seen))
      → result_and_then (λ n. read_from t ms n) (one_more t naming i s) ≡ Err f
      → IsFaultOf f (unwrap_or (blame_one (entries (table_of t)) (accepts_at (rows_of t.rows)) of k naming i s.seen)
      (from (suc k) ms (seen_with naming s.seen)))
  one_fault k wrong i ms s f rest e = let same : fault.BadKey ≡ f = cc in ap reason.Fault same
  one_fault k unknown i ms s f rest e = rest s e
  one_fault k (row n) i ms s f rest e = row_fault k n i ms s f rest (s.seen n) (accepts_at (rows_of t.rows) n i) e

  pairs_fault : (k : ℕ) (ms : Members) (s : Progress P) (f : Fault) → read_from t ms s ≡ Err f
      → IsFaultOf f (from k ms s.seen)
  pairs_fault k [] s f e = missing_fault (first_missing (entries (table_of t)) s.seen) s.made f e
  pairs_fault k (m ∷ ms) s f e =
      one_fault k (named (table_of t) m.0) m.1 ms s f (λ next. pairs_fault (suc k) ms next f) e

  whole : (i : Item) (f : Fault) → read_item t i ≡ Err f
      → IsFaultOf f (record_blame (entries (table_of t)) (accepts_at (rows_of t.rows)) of t.is_numbered i)
  unfolding record_blame
  whole (item.map ps) f e = pairs_fault 0 (members ps) (record { seen = λ n. false; made = t.blank }) f e
  whole _ f e = let same : fault.NotAMap ≡ f = cc in ap reason.Fault same

-- the table of a record and its shape have the same rows
same_accepts : {P : Type 0} (ms : List (Member P)) (n : ℕ) (i : Item)
    → accepts_at (rows_of ms) n i ≡ accepts_in (shapes_of ms) n i
same_accepts [] n i = refl
same_accepts (m ∷ ms) n i = elim (m.entry.number == n)
    as (λ c. (if c then is_some (m.kind.of i) else accepts_at (rows_of ms) n i)
    ≡ accepted_by (if c then Some (record { accepts = test_of m.kind; shape = m.kind.shape }) else row_in (shapes_of ms) n) i)
    [ true ↦ refl | false ↦ same_accepts ms n i ]

same_blame : {P : Type 0} (t : Fields P) (i : Item)
    → record_blame (entries (table_of t)) (accepts_at (rows_of t.rows)) (blamed_row (shapes_of t.rows)) t.is_numbered i
    ≡ blamed (shape_of t) i
same_blame t i = λ j.
    record_blame (same_entries t.rows j) (λ n x. same_accepts t.rows n x j) (blamed_row (shapes_of t.rows)) t.is_numbered i

pub item_fault : {P : Type 0} (t : Fields P) (i : Item) (f : Fault) → read_item t i ≡ Err f
    → IsFaultOf f (blamed (shape_of t) i)
item_fault t i f e = subst (IsFaultOf f) (same_blame t i) (whole t (blamed_row (shapes_of t.rows)) i f e)

-- ---- each item on the path is refused

abbrev Refuses : Tested → Item → Blame → Type 0
Refuses t i b = IsRefusedAlong b.path t i b.reason

of_same : (t u : Tested) (x : Item) (b : Blame) → t ≡ u → u.accepts x ≡ false → (t.accepts x ≡ false → Refuses t x b)
    → Refuses u x b
of_same t u x b same bad h =
    subst (λ (v : Tested). Refuses v x b) same (h (ap (λ (v : Tested). v.accepts x) same ∙ bad))

module _ (accepts : Item → Bool) (s : Shape)
    (inner : (x : Item) → accepts x ≡ false
    → IsRefusedAlong (blamed s x).path (record { accepts = accepts; shape = s }) x (blamed s x).reason) where
  elements_refused : (a : Item → Bool) (is : item.Items) (n : ℕ) (xs : List Item) → AreLeft (elements is) n xs
      → a (array is) ≡ false → Refuses (record { accepts = a; shape = shape.list accepts s }) (array is)
      (blame_elements accepts (blamed s) n xs)
  elements_refused a is n [] left bad = bad
  elements_refused a is n (x ∷ xs) left bad = (elim (accepts x)
      as (λ c. accepts x ≡ c → Refuses (record { accepts = a; shape = shape.list accepts s }) (array is)
      (if c then blame_elements accepts (blamed s) (suc n) xs else under (element n) (blamed s x))) [
        | true ↦ λ e. elements_refused a is (suc n) xs (others_left (elements is) n x xs left) bad
        | false ↦ λ e. (
          bad,
          (
            record {
              part = x;
              as_part = record { accepts = accepts; shape = s };
              leads = first_left (elements is) n x xs left;
              is = refl;
            },
            inner x e,
          ),
        )
      ]) refl

  list_refused : (a : Item → Bool) (i : Item) → a i ≡ false
      → Refuses (record { accepts = a; shape = shape.list accepts s }) i (list_blame accepts (blamed s) i)
  unfolding list_blame
  list_refused a (array is) bad = elements_refused a is 0 (elements is) (all_left (elements is)) bad
  list_refused a _ bad = bad

  value_case : (a : Item → Bool) (ps : item.Pairs) (n : ℕ) (m : Item × Item) (ms : Members) → a (item.map ps) ≡ false
      → slice_get (members ps) n ≡ Some m → Refuses (record { accepts = a; shape = shape.map accepts s }) (item.map ps)
      (blame_entries accepts (blamed s) (suc n) ms) → (c : Bool) → accepts m.1 ≡ c
      → Refuses (record { accepts = a; shape = shape.map accepts s }) (item.map ps)
      (if c then blame_entries accepts (blamed s) (suc n) ms else under (value n) (blamed s m.1))
  value_case a ps n m ms bad at later true e = later
  value_case a ps n m ms bad at later false e = (
    bad,
    (
      record {
        part = m.1;
        as_part = record { accepts = accepts; shape = s };
        leads = ap (option_map (λ (p : Item × Item). p.1)) at;
        is = refl;
      },
      inner m.1 e,
    ),
  )

  key_case : (a : Item → Bool) (ps : item.Pairs) (n : ℕ) (m : Item × Item) (ms : Members) → a (item.map ps) ≡ false
      → slice_get (members ps) n ≡ Some m → Refuses (record { accepts = a; shape = shape.map accepts s }) (item.map ps)
      (blame_entries accepts (blamed s) (suc n) ms) → (o : Option (List ℕ)) → bytes_from m.0 ≡ o
      → Refuses (record { accepts = a; shape = shape.map accepts s }) (item.map ps) (if is_some o
      then (if accepts m.1 then blame_entries accepts (blamed s) (suc n) ms else under (value n) (blamed s m.1))
      else under (key n) (wants wanted.Bytes))
  key_case a ps n m ms bad at later (Some x) e = value_case a ps n m ms bad at later (accepts m.1) refl
  key_case a ps n m ms bad at later None e = (bad, (m.0, (ap (option_map (λ (p : Item × Item). p.0)) at, e)))

  entries_refused : (a : Item → Bool) (ps : item.Pairs) (n : ℕ) (ms : Members) → AreLeft (members ps) n ms
      → a (item.map ps) ≡ false → Refuses (record { accepts = a; shape = shape.map accepts s }) (item.map ps)
      (blame_entries accepts (blamed s) n ms)
  entries_refused a ps n [] left bad = bad
  entries_refused a ps n (m ∷ ms) left bad =
      key_case a ps n m ms bad (first_left (members ps) n m ms left)
      (entries_refused a ps (suc n) ms (others_left (members ps) n m ms left) bad) (bytes_from m.0) refl

  map_refused : (a : Item → Bool) (i : Item) → a i ≡ false
      → Refuses (record { accepts = a; shape = shape.map accepts s }) i (map_blame accepts (blamed s) i)
  unfolding map_blame
  map_refused a (item.map ps) bad = entries_refused a ps 0 (members ps) (all_left (members ps)) bad
  map_refused a _ bad = bad

unwrapped : (t : Tested) (i : Item) (o : Option Blame) (b : Blame) → IfSome o (Refuses t i) → Refuses t i b
    → Refuses t i (unwrap_or o b)
unwrapped t i (Some a) b ha hb = ha
unwrapped t i None b ha hb = hb

module _ (a : Item → Bool) (is_numbered : Bool) (rows : Rows) (inner : (n : ℕ) (u : Tested) (x : Item)
    → row_in rows n ≡ Some u → u.accepts x ≡ false
    → IsRefusedAlong (blamed_row rows n x).path u x (blamed_row rows n x).reason) (ps : item.Pairs)
    (bad : a (item.map ps) ≡ false) where
  abbrev whole_record : Tested
  whole_record = record { accepts = a; shape = record_of is_numbered rows }

  row_case : (k n : ℕ) (m : Item × Item) → slice_get (members ps) k ≡ Some m → (o : Option Tested) → row_in rows n ≡ o
      → is_some o ≡ true → (c : Bool) → accepted_by o m.1 ≡ c
      → IfSome (option_map (under (member k n (name_at (entries_in rows) n)))
      (if c then None else Some (blamed_row rows n m.1))) (Refuses whole_record (item.map ps))
  row_case k n m at (Some u) is there true e = tt
  row_case k n m at (Some u) is there false e = (
    bad,
    (record { part = m.1; as_part = u; leads = ap (option_map (λ (p : Item × Item). p.1)) at; is = is }, inner n u m.1 is e),
  )
  row_case k n m at None is there c e = absurd cc

  seen_case : (k n : ℕ) (m : Item × Item) → slice_get (members ps) k ≡ Some m
      → names is_numbered (entries_in rows) m.0 ≡ row n → (seen : Bool)
      → IfSome (if seen then Some (under (key k) (at_fault (fault.Repeated n)))
      else option_map (under (member k n (name_at (entries_in rows) n)))
      (if accepts_in rows n m.1 then None else Some (blamed_row rows n m.1))) (Refuses whole_record (item.map ps))
  seen_case k n m at e true = (bad, (m.0, (ap (option_map (λ (p : Item × Item). p.0)) at, inr (n, (e, refl)))))
  seen_case k n m at e false =
      row_case k n m at (row_in rows n) refl (named_there is_numbered rows n m.0 e) (accepts_in rows n m.1) refl

  one_case : (k : ℕ) (m : Item × Item) (seen : ℕ → Bool) → slice_get (members ps) k ≡ Some m → (naming : Naming)
      → names is_numbered (entries_in rows) m.0 ≡ naming
      → IfSome (blame_one (entries_in rows) (accepts_in rows) (blamed_row rows) k naming m.1 seen)
      (Refuses whole_record (item.map ps))
  one_case k m seen at wrong e = (bad, (m.0, (ap (option_map (λ (p : Item × Item). p.0)) at, inl (e, refl))))
  one_case k m seen at unknown e = tt
  one_case k m seen at (row n) e = seen_case k n m at e (seen n)

  missing_refused : (o : Option ℕ) → Refuses whole_record (item.map ps) (blame_missing o)
  missing_refused (Some n) = bad
  missing_refused None = bad

  pairs_refused : (k : ℕ) (ms : Members) (seen : ℕ → Bool) → AreLeft (members ps) k ms
      → Refuses whole_record (item.map ps)
      (blame_from (entries_in rows) (accepts_in rows) (blamed_row rows) is_numbered k ms seen)
  pairs_refused k [] seen left = missing_refused (first_missing (entries_in rows) seen)
  pairs_refused k (m ∷ ms) seen left =
      let naming = names is_numbered (entries_in rows) m.0 in
      unwrapped whole_record (item.map ps) (blame_one (entries_in rows) (accepts_in rows) (blamed_row rows) k naming m.1 seen)
      (blame_from (entries_in rows) (accepts_in rows) (blamed_row rows) is_numbered (suc k) ms (seen_with naming seen))
      (one_case k m seen (first_left (members ps) k m ms left) naming refl)
      (pairs_refused (suc k) ms (seen_with naming seen) (others_left (members ps) k m ms left))

record_refused : (a : Item → Bool) (is_numbered : Bool) (rows : Rows) → ((n : ℕ) (u : Tested) (x : Item)
    → row_in rows n ≡ Some u → u.accepts x ≡ false
    → IsRefusedAlong (blamed_row rows n x).path u x (blamed_row rows n x).reason) → (i : Item) → a i ≡ false
    → Refuses (record { accepts = a; shape = record_of is_numbered rows }) i (blamed (record_of is_numbered rows) i)
unfolding record_blame
record_refused a is_numbered rows inner (item.map ps) bad =
    pairs_refused a is_numbered rows inner ps bad 0 (members ps) (λ n. false) (all_left (members ps))
record_refused a is_numbered rows inner _ bad = bad

-- what a type refuses is refused where it is tolerated, too
refused_inside : (a kept : Item → Bool) (s : Shape) (path : List Step) (i : Item) (why : Reason)
    → IsRefusedAlong path (record { accepts = a; shape = s }) i why
    → IsRefusedAlong path (record { accepts = a; shape = shape.tolerant kept s }) i why
refused_inside a kept s [] i why h = h
refused_inside a kept s (key n ∷ ss) i why h = h
refused_inside a kept s (element n ∷ ss) i why h =
    (h.0, (record { part = h.1.0.part; as_part = h.1.0.as_part; leads = h.1.0.leads; is = h.1.0.is }, h.1.1))
refused_inside a kept s (member n number name ∷ ss) i why h =
    (h.0, (record { part = h.1.0.part; as_part = h.1.0.as_part; leads = h.1.0.leads; is = h.1.0.is }, h.1.1))
refused_inside a kept s (value n ∷ ss) i why h =
    (h.0, (record { part = h.1.0.part; as_part = h.1.0.as_part; leads = h.1.0.leads; is = h.1.0.is }, h.1.1))

mutual
  pub refused : (s : Shape) (a : Item → Bool) (i : Item) → a i ≡ false
      → IsRefusedAlong (blamed s i).path (record { accepts = a; shape = s }) i (blamed s i).reason
  refused (leaf w) a i bad = bad
  refused (shape.list accepts s) a i bad = list_refused accepts s (refused s accepts) a i bad
  refused (shape.map accepts s) a i bad = map_refused accepts s (refused s accepts) a i bad
  refused (record_of is_numbered rows) a i bad = record_refused a is_numbered rows (row_refused rows) i bad
  refused (shape.tolerant kept s) a i bad = refused_inside a kept s (blamed s i).path i (blamed s i).reason (refused s a i bad)

  row_refused : (rs : Rows) (n : ℕ) (u : Tested) (x : Item) → row_in rs n ≡ Some u → u.accepts x ≡ false
      → IsRefusedAlong (blamed_row rs n x).path u x (blamed_row rs n x).reason
  row_refused no_rows n u x = λ e bad. absurd cc
  row_refused (shape.row e accepts s rs) n u x = elim (e.number == n)
      as (λ c. (if c then Some (record { accepts = accepts; shape = s }) else row_in rs n) ≡ Some u → u.accepts x ≡ false
      → Refuses u x (if c then blamed s x else blamed_row rs n x)) [
        | true ↦ λ is bad.
            of_same (record { accepts = accepts; shape = s }) u x (blamed s x) (some_same is) bad (refused s accepts x)
        | false ↦ row_refused rs n u x
      ]

pub item_refused : {P : Type 0} (t : Fields P) (i : Item) (f : Fault) → read_item t i ≡ Err f
    → IsRefusedAlong (blamed (shape_of t) i).path (tested (nested t)) i (blamed (shape_of t) i).reason
item_refused {P} t i f e =
    refused (shape_of t) (λ x. is_some (record_kind t x)) i (ap (λ (r : Result P Fault). is_some (result_ok r)) e)
