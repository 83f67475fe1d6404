-- What a record blames in a JSON value that it refuses is to blame.
use Rattle.std.specs.Prelude.{◌≡◌, ◌⊎◌, ℕ, ◌||◌, ◌==◌, not, Bool, true, false, if◌then◌else◌, List, [], ◌∷◌, Option, Some, None, is_some, option_map, Result, Ok, Err, is_ok, refl}
use Rattle.std.specs.Option.{option_and_then}
use Rattle.std.specs.Result.{result_ok}
use Rattle.std.specs.Str.{bytes_eq}
use Rattle.std.proofs.Common.{sym, ap, subst, ◌∙◌, true≢false, inl, inr}
use Rattle.std.proofs.lemmas.Bool.{and_parts, eq-eqb, eqb-true, not-true}
use Rattle.std.proofs.lemmas.Slice.Eq.{bytes_eq-Decides}
use Rattle.passkey_json.specs.Along.{Strict, IsWithin, accepts, holds}
use Rattle.passkey_json.specs.Fault.{Fault, no_object, missing, refused, float, repeated, fault_in, fault_name, is_refusal}
use Rattle.passkey_json.specs.Members.{◌>>=◌, Object, Member, under, one_of, aliased, in_object, record_kind}
use Rattle.passkey_json.specs.Record.{JsonMember, PlainTable, either_name, looked, read_all, entries, are_distinct, has_number, uses, is_other, is_other_apart, distinct, members_in, rows_in, table_shape}
use Rattle.passkey_json.specs.Shape.{Entry, Tested, Part, part, named, entries_in, row_in, entry_named, decoded_as, entry_at, faulty_row, other_present, own_present, row_at}
use Rattle.serde_json.specs.Data.{Data, object}
use Rattle.serde_json.specs.Find.{get}

-- the value under each name
abbrev names_in : Data → Object
names_in d name = get name d

-- No record is decoded from these members, whatever it held before.
abbrev Fails : {P : Type 0} → List (JsonMember P) → Data → Type 0
Fails {P} ms d = (r : P) → is_ok (read_all ms (names_in d) r) ≡ false

-- ---- one reading after another

bind_fails : {A B : Type 0} (x : Result A Fault) (g : A → Result B Fault) → ((a : A) → is_ok (g a) ≡ false)
    → is_ok (x >>= g) ≡ false
bind_fails (Ok a) g f = f a
bind_fails (Err e) g f = refl

first_fails : {A B : Type 0} (x : Result A Fault) (g : A → Result B Fault) → is_ok x ≡ false → is_ok (x >>= g) ≡ false
first_fails (Ok a) g f = absurd cc
first_fails (Err e) g f = refl

-- a fault is that of the first reading, or of the second
bind_err : {A B : Type 0} (x : Result A Fault) (g : A → Result B Fault) (f : Fault) → (x >>= g) ≡ Err f
    → (x ≡ Err f) ⊎ ((a : A) × (x ≡ Ok a) × (g a ≡ Err f))
bind_err (Ok a) g f e = inr (a, refl, e)
bind_err (Err k) g f e = let is : k ≡ f = cc in inl (ap (λ q. Err q) is)

later_fails : {P : Type 0} (m : JsonMember P) (ms : List (JsonMember P)) (e : Data) → Fails ms e → Fails (m ∷ ms) e
later_fails m ms e fails r =
    bind_fails (looked m.entry (names_in e)) (λ found. m.read found >>= λ x. read_all ms (names_in e) (m.set x r))
    (λ found. bind_fails (m.read found) (λ x. read_all ms (names_in e) (m.set x r)) (λ x. fails (m.set x r)))

-- ---- the member under its own name, or its other one

own_fails : {B : Type 0} (name : List ℕ) (other : Option (List ℕ)) (o : Object) (x : Data) (g : Member → Result B Fault)
    → o name ≡ Some x → is_ok (g (under name (Some x))) ≡ false → is_ok (either_name name other o >>= g) ≡ false
own_fails name None o x g here bad = rw here bad
own_fails name (Some other) o x g here bad = by_other (o other) where
  by_other : (q : Option Data) → is_ok (one_of name (o name) q >>= g) ≡ false
  by_other None = rw here bad
  by_other (Some y) = rw here refl

other_fails : {B : Type 0} (name other : List ℕ) (o : Object) (x : Data) (g : Member → Result B Fault)
    → o other ≡ Some x → is_ok (g (under name (Some x))) ≡ false → is_ok (aliased name other o >>= g) ≡ false
other_fails name other o x g here bad = by_own (o name) where
  by_own : (q : Option Data) → is_ok (one_of name q (o other) >>= g) ≡ false
  by_own None = rw here bad
  by_own (Some y) = rw here refl

looked_repeats : (name : List ℕ) (other : Option (List ℕ)) (o : Object) (f : Fault) → either_name name other o ≡ Err f
    → is_refusal f ≡ false
looked_repeats name None o f e = absurd cc
looked_repeats name (Some other) o f e = by_both (o name) (o other) e where
  by_both : (p q : Option Data) → one_of name p q ≡ Err f → is_refusal f ≡ false
  by_both (Some x) (Some y) e = let is : repeated name ≡ f = cc in subst (λ k. is_refusal k ≡ false) is refl
  by_both (Some x) None e = absurd cc
  by_both None q e = absurd cc

found_named : (name : List ℕ) (other : Option (List ℕ)) (o : Object) (found : Member) → either_name name other o ≡ Ok found
    → (q : Option Data) × (found ≡ under name q)
found_named name None o found e = (o name, cc)
found_named name (Some other) o found e = by_both (o name) (o other) e where
  by_both : (p q : Option Data) → one_of name p q ≡ Ok found → (q : Option Data) × (found ≡ under name q)
  by_both (Some x) (Some y) e = absurd cc
  by_both (Some x) None e = (Some x, cc)
  by_both None q e = (q, cc)

found_own : (name : List ℕ) (other : Option (List ℕ)) (o : Object) (x : Data) (found : Member) → o name ≡ Some x
    → either_name name other o ≡ Ok found → found ≡ under name (Some x)
found_own name None o x found here e = let f = rw here at e in cc
found_own name (Some other) o x found here e = by_other (o other) (rw here at e) where
  by_other : (q : Option Data) → one_of name (Some x) q ≡ Ok found → found ≡ under name (Some x)
  by_other None f = cc
  by_other (Some y) f = absurd cc

found_other : (name other : List ℕ) (o : Object) (x : Data) (found : Member) → o name ≡ None → o other ≡ Some x
    → aliased name other o ≡ Ok found → found ≡ under name (Some x)
found_other name other o x found none here e = let f = rw (none, here) at e in cc

-- ---- no name and no number occurs twice

used : (name : List ℕ) (e : Entry) (es : List Entry) → uses name es ≡ true → uses name (e ∷ es) ≡ true
used name e es u = by_own (bytes_eq name e.name) where
  by_other : (b : Bool) → (b || uses name es) ≡ true
  by_other true = refl
  by_other false = u

  by_own : (b : Bool) → (b || (is_other name e.other || uses name es)) ≡ true
  by_own true = refl
  by_own false = by_other (is_other name e.other)

used_first : (name : List ℕ) (e : Entry) (es : List Entry) → name ≡ e.name → uses name (e ∷ es) ≡ true
used_first name e es is = rw ((bytes_eq-Decides name e.name).1 is) refl

or_true : (b c : Bool) → c ≡ true → (b || c) ≡ true
or_true true c e = refl
or_true false c e = e

other_number : (n k : ℕ) (es : List Entry) → has_number n es ≡ true → has_number k es ≡ false → (b : Bool)
    → (n == k) ≡ b → b ≡ false
other_number n k es used unused false e = refl
other_number n k es used unused true e =
    let same : n ≡ k = eqb-true n k e in
    absurd (true≢false (sym used ∙ ap (λ (m : ℕ). has_number m es) same ∙ unused))

abbrev tested_by : {P : Type 0} → JsonMember P → Tested
tested_by m = record { accepts = m.accepts; shape = m.shape }

-- the member is found, and its value is rejected
pub record IsFaulty {P : Type 0} (m : JsonMember P) (d : Data) (f : Fault) : Type 0 where
  pub found : Member
  pub looks : looked m.entry (names_in d) ≡ Ok found
  pub bad : m.read found ≡ Err f

-- the member with this name
pub record IsNamed {P : Type 0} (ms : List (JsonMember P)) (name : List ℕ) (e : Entry) : Type 1 where
  pub m : JsonMember P
  pub entry : m.entry ≡ e
  pub used : has_number m.entry.number (entries ms) ≡ true
  pub row : row_in (rows_in ms) m.entry.number ≡ Some (tested_by m)
  pub own : (d x : Data) → get m.entry.name d ≡ Some x → m.accepts x ≡ false → Fails ms d
  pub other : (k : List ℕ) → m.entry.other ≡ Some k → (d x : Data) → get k d ≡ Some x → m.accepts x ≡ false → Fails ms d
  pub faulty : (d : Data) (r : P) (f : Fault) → is_refusal f ≡ true → fault_name f ≡ Some name
      → read_all ms (names_in d) r ≡ Err f → IsFaulty m d f

module _ {P : Type 0} (m : JsonMember P) (ms : List (JsonMember P)) where
  own_refused : (d x : Data) → get m.entry.name d ≡ Some x → m.accepts x ≡ false → Fails (m ∷ ms) d
  own_refused d x here bad r =
      let g : Member → Result P Fault = λ found. m.read found >>= λ y. read_all ms (names_in d) (m.set y r) in
      own_fails m.entry.name m.entry.other (names_in d) x g here
      (first_fails (m.read (under m.entry.name (Some x))) (λ y. read_all ms (names_in d) (m.set y r))
      (m.judges.says m.entry.name x ∙ bad))

  other_refused : (k : List ℕ) → m.entry.other ≡ Some k → (d x : Data) → get k d ≡ Some x → m.accepts x ≡ false
      → Fails (m ∷ ms) d
  other_refused k is d x here bad r =
      let g : Member → Result P Fault = λ found. m.read found >>= λ y. read_all ms (names_in d) (m.set y r) in
      rw is (other_fails m.entry.name k (names_in d) x g here
      (first_fails (m.read (under m.entry.name (Some x))) (λ y. read_all ms (names_in d) (m.set y r))
      (m.judges.says m.entry.name x ∙ bad)))

-- which member a fault is of
module _ {P : Type 0} (d : Data) (f : Fault) (name : List ℕ) (refuses : is_refusal f ≡ true)
    (is : fault_name f ≡ Some name) where
  fault_named : (m : JsonMember P) (found : Member) → looked m.entry (names_in d) ≡ Ok found → m.read found ≡ Err f
      → name ≡ m.entry.name
  fault_named m found looks bad =
      let q = found_named m.entry.name m.entry.other (names_in d) found looks in
      let e = m.judges.names m.entry.name q.0 f (ap m.read (sym q.1) ∙ bad) in
      cc

  fault_at : (m : JsonMember P) (ms : List (JsonMember P)) (r : P) → read_all (m ∷ ms) (names_in d) r ≡ Err f
      → IsFaulty m d f ⊎ ((s : P) × (read_all ms (names_in d) s ≡ Err f))
  fault_at m ms r e =
      elim (bind_err (looked m.entry (names_in d)) (λ found. m.read found >>= λ x. read_all ms (names_in d) (m.set x r)) f
      e) [
        | inl l ↦ absurd (true≢false (sym refuses ∙ looked_repeats m.entry.name m.entry.other (names_in d) f l))
        | inr l ↦ elim (bind_err (m.read l.0) (λ x. read_all ms (names_in d) (m.set x r)) f l.2) [
          | inl bad ↦ inl (record { found = l.0; looks = l.1; bad = bad })
          | inr v ↦ inr (m.set v.0 r, v.2)
        ]
      ]

  fault_used : (ms : List (JsonMember P)) (r : P) → read_all ms (names_in d) r ≡ Err f → uses name (entries ms) ≡ true
  fault_used [] r e = absurd cc
  fault_used (m ∷ ms) r e = elim (fault_at m ms r e) [
    | inl b ↦ used_first name m.entry (entries ms) (fault_named m b.found b.looks b.bad)
    | inr v ↦ used name m.entry (entries ms) (fault_used ms v.0 v.1)
  ]

module _ {P : Type 0} (name : List ℕ) where
  row_first : (m : JsonMember P) (ms : List (JsonMember P)) → name ≡ m.entry.name → uses m.entry.name (entries ms) ≡ false
      → IsNamed (m ∷ ms) name m.entry
  row_first m ms is unused =
      let same : (m.entry.number == m.entry.number) ≡ true = eq-eqb m.entry.number m.entry.number refl in
      record {
        m = m;
        entry = refl;
        used = rw same refl;
        row = rw same refl;
        own = own_refused m ms;
        other = other_refused m ms;
        faulty = λ d r f refuses told e. elim (fault_at d f name refuses told m ms r e) [
          | inl b ↦ b
          | inr v ↦ absurd (true≢false (sym (fault_used d f name refuses told ms v.0 v.1)
              ∙ ap (λ (n : List ℕ). uses n (entries ms)) is ∙ unused))
        ];
      }

  row_later : (m : JsonMember P) (ms : List (JsonMember P)) (e : Entry) → bytes_eq name m.entry.name ≡ false
      → has_number m.entry.number (entries ms) ≡ false → IsNamed ms name e → IsNamed (m ∷ ms) name e
  row_later m ms e differs unused n =
      let other : (n.m.entry.number == m.entry.number) ≡ false =
      other_number n.m.entry.number m.entry.number (entries ms) n.used unused _ refl in
      record {
        m = n.m;
        entry = n.entry;
        used = or_true _ _ n.used;
        row = rw other n.row;
        own = λ d x here bad. later_fails m ms d (n.own d x here bad);
        other = λ k is d x here bad. later_fails m ms d (n.other k is d x here bad);
        faulty = λ d r f refuses told e. elim (fault_at d f name refuses told m ms r e) [
          | inl b ↦ absurd (true≢false (sym ((bytes_eq-Decides name m.entry.name).1
              (fault_named d f name refuses told m b.found b.looks b.bad)) ∙ differs))
          | inr v ↦ n.faulty d v.0 f refuses told v.1
        ];
      }

  member_named : (ms : List (JsonMember P)) (e : Entry) → are_distinct (entries ms) ≡ true
      → entry_named (entries_in (rows_in ms)) name ≡ Some e → IsNamed ms name e
  member_named [] e each at = absurd cc
  member_named (m ∷ ms) e each at =
      let a = and_parts (not (has_number m.entry.number (entries ms))) _ each in
      let b = and_parts (not (uses m.entry.name (entries ms))) _ a.1 in
      let c = and_parts (is_other_apart m.entry.name m.entry.other (entries ms)) _ b.1 in
      by_name (λ f. member_named ms e c.1 f) (bytes_eq name m.entry.name) refl (not-true _ a.0) (not-true _ b.0) at where
        by_name : (entry_named (entries_in (rows_in ms)) name ≡ Some e → IsNamed ms name e) → (t : Bool)
            → bytes_eq name m.entry.name ≡ t → has_number m.entry.number (entries ms) ≡ false
            → uses m.entry.name (entries ms) ≡ false
            → (if t then Some m.entry else entry_named (entries_in (rows_in ms)) name) ≡ Some e → IsNamed (m ∷ ms) name e
        by_name later true s apart unused f =
            let is : m.entry ≡ e = cc in
            subst (λ (x : Entry). IsNamed (m ∷ ms) name x) is
            (row_first m ms ((bytes_eq-Decides name m.entry.name).0 s) unused)
        by_name later false s apart unused f = row_later m ms e s apart (later f)

-- ---- records

none_ok : {A : Type 0} (x : Result A Fault) → is_ok x ≡ false → is_some (result_ok x) ≡ false
none_ok (Ok a) e = absurd cc
none_ok (Err f) e = refl

module _ {P : Type 0} (t : PlainTable P) where
  kind_fails : (e : Data) → Fails t.members e → accepts (record_kind (members_in t)) e ≡ false
  kind_fails (object ms) fails = none_ok (read_all t.members (names_in (object ms)) t.blank) (fails t.blank)
  kind_fails _ fails = refl

  read_there : (d : Data) (f : Fault) → is_refusal f ≡ true → in_object (members_in t) d ≡ Err f
      → read_all t.members (names_in d) t.blank ≡ Err f
  read_there (object ms) f refuses e = e
  read_there _ f refuses e = let same : no_object ≡ f = cc in absurd (let r = rw (← same) at refuses in cc)

  module _ (d : Data) (f : Fault) (name : List ℕ) (p : Part) (e : Entry) (n : IsNamed t.members name e)
      (b : IsFaulty n.m d f) where
    refused_value : (x : Data) → b.found ≡ under n.m.entry.name (Some x) → n.m.accepts x ≡ false
    refused_value x is =
        sym (n.m.judges.says n.m.entry.name x)
        ∙ subst (λ (q : Member). is_ok (n.m.read q) ≡ false) is (ap is_ok b.bad)

    -- the value under this name
    value_within : (k : List ℕ) (x : Data) → get k d ≡ Some x → b.found ≡ under n.m.entry.name (Some x)
        → ((q y : Data) → get k q ≡ Some y → n.m.accepts y ≡ false → Fails t.members q)
        → decoded_as (rows_in t.members) n.m.entry.number (Some (k, x)) ≡ Some p
        → IsWithin (accepts (record_kind (members_in t))) d p
    value_within k x here is fails at =
        let whole : Part = part (named k) x (tested_by n.m) in
        let there : Some whole ≡ Some p = rw n.row at at in
        let same : whole ≡ p = cc in
        subst (λ (q : Part). IsWithin (accepts (record_kind (members_in t))) d q) same (record {
          leads = here;
          refused = refused_value x is;
          holds = holds (tested_by n.m) n.m.strict;
          outer = λ q y there bad. kind_fails q (fails q y there bad);
        })

    by_other : get n.m.entry.name d ≡ None → (o : Option (List ℕ)) → n.m.entry.other ≡ o
        → decoded_as (rows_in t.members) n.m.entry.number (other_present o d) ≡ Some p
        → IsWithin (accepts (record_kind (members_in t))) d p
    by_other none None is at = absurd cc
    by_other none (Some k) is at = by_value (get k d) refl at where
      by_value : (v : Option Data) → get k d ≡ v
          → decoded_as (rows_in t.members) n.m.entry.number (option_map (λ x. (k, x)) v) ≡ Some p
          → IsWithin (accepts (record_kind (members_in t))) d p
      by_value None here at = absurd cc
      by_value (Some x) here at =
          value_within k x here (found_other n.m.entry.name k (names_in d) x b.found none here (rw is at b.looks))
          (n.other k is) at

    entry_within : (v : Option Data) → get n.m.entry.name d ≡ v
        → decoded_as (rows_in t.members) n.m.entry.number (own_present n.m.entry.name v (other_present n.m.entry.other d))
        ≡ Some p → IsWithin (accepts (record_kind (members_in t))) d p
    entry_within (Some x) here at =
        value_within n.m.entry.name x here (found_own n.m.entry.name n.m.entry.other (names_in d) x b.found here b.looks)
        n.own at
    entry_within None here at = by_other here n.m.entry.other refl at

  row_within : (d : Data) (f : Fault) (name : List ℕ) (p : Part) → is_refusal f ≡ true → fault_name f ≡ Some name
      → in_object (members_in t) d ≡ Err f → row_at (rows_in t.members) name d ≡ Some p
      → IsWithin (accepts (record_kind (members_in t))) d p
  row_within d f name p refuses told e at = by_entry (entry_named (entries_in (rows_in t.members)) name) refl at where
    by_entry : (o : Option Entry) → entry_named (entries_in (rows_in t.members)) name ≡ o
        → option_and_then (entry_at (rows_in t.members) d) o ≡ Some p → IsWithin (accepts (record_kind (members_in t))) d p
    by_entry None is at = absurd cc
    by_entry (Some x) is at =
        let n = member_named name t.members x (distinct t) is in
        let b = n.faulty d t.blank f refuses told (read_there d f refuses e) in
        entry_within d f name p x n b (get n.m.entry.name d) refl
        (subst (λ (y : Entry). entry_at (rows_in t.members) d y ≡ Some p) (sym n.entry) at)

  pub record_strict : Strict (accepts (record_kind (members_in t))) (table_shape t)
  record_strict d p once bad at = by_result (in_object (members_in t) d) refl at where
    by_result : (r : Result P Fault) → in_object (members_in t) d ≡ r
        → faulty_row (rows_in t.members) (fault_in r) d ≡ Some p → IsWithin (accepts (record_kind (members_in t))) d p
    by_result (Ok x) e at = absurd cc
    by_result (Err no_object) e at = absurd cc
    by_result (Err (missing name)) e at = absurd cc
    by_result (Err (repeated name)) e at = absurd cc
    by_result (Err (refused name)) e at = row_within d (refused name) name p refl refl e at
    by_result (Err (float name)) e at = row_within d (float name) name p refl refl e at
