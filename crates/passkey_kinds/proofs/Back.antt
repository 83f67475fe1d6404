-- Records can be decoded again from the encodings of their members.
use Rattle.passkey_kinds.proofs.Common.{Item, boolean, IfPresent, members-pairs_of, truth_from, Kind, IsReadBack, Fields, set_with, rows_of, table_of, put_at, unless_missing, one_more, Progress, result_and_then, read_from, read_members, read_item, Member, record_kind, Table, entries, named, Members, first_missing, Naming, row, accepts_at, ◌>>=◌, Place, record_tree, under, laid, where_true, ◌≡◌, ◌∙◌, ℕ, arith, Bool, true, false, not, ◌&&◌, List, [], ◌∷◌, ◌++◌, Option, Some, None, is_some, option_map, refl, sym, ap, Ok, ◌==◌, cond, set, ◌||◌, unwrap_or, and_parts, ne_eqb, eqb-true, not-true, eqb-false, unsigned_Decides, list_any, result_ok}
use Rattle.std.proofs.lemmas.Bool.{or_parts}

-- ---- the values that the places of a record have for its rows

abbrev is_row : ℕ → Naming → Bool
is_row n (row m) = n == m
is_row n _ = false

-- the keys name these rows
abbrev pub have_rows : Table → List ℕ → List Place → Bool
have_rows table [] [] = true
have_rows table [] (p ∷ ps) = false
have_rows table (n ∷ ns) [] = false
have_rows table (n ∷ ns) (p ∷ ps) = is_row n (named table p.0) && have_rows table ns ps

abbrev pub are_distinct : List ℕ → Bool
are_distinct [] = true
are_distinct (n ∷ ns) = not (list_any (λ m. n == m) ns) && are_distinct ns

pub names_it : (naming : Naming) (n : ℕ) → is_row n naming ≡ true → naming ≡ row n
names_it (row m) n h = ap row (sym (eqb-true n m h))
names_it _ n h = absurd cc

pub apart_too : (n k : ℕ) → (n == k) ≡ false → (k == n) ≡ false
apart_too n k h = ne_eqb k n (λ e. eqb-false n k h (sym e))

-- the rows that are named after the places' values too
abbrev pub named_after : List ℕ → List Place → (ℕ → Bool) → ℕ → Bool
named_after [] ps seen = seen
named_after (n ∷ ns) [] seen = seen
named_after (n ∷ ns) (p ∷ ps) seen = named_after ns ps (λ k. cond (k == n) (is_some p.1 || seen k) (seen k))

-- the first required row for which the places have no value
abbrev pub missing_of : Table → List ℕ → List Place → Option ℕ
missing_of table ns ps = first_missing (entries table) (named_after ns ps (λ k. false))

abbrev AllUnseen : (ℕ → Bool) → List ℕ → Type 0
AllUnseen seen [] = Unit {0}
AllUnseen seen (n ∷ ns) = (seen n ≡ false) × AllUnseen seen ns

all_unseen : (ns : List ℕ) → AllUnseen (λ k. false) ns
all_unseen [] = tt
all_unseen (n ∷ ns) = (refl, all_unseen ns)

still_unseen : (seen : ℕ → Bool) (n : ℕ) (b : Bool) (ns : List ℕ) → list_any (λ k. n == k) ns ≡ false
    → AllUnseen seen ns → AllUnseen (λ k. cond (k == n) (b || seen k) (seen k)) ns
still_unseen seen n b [] apart h = tt
still_unseen seen n b (k ∷ ns) apart h =
    let p = or_parts (n == k) (list_any (λ j. n == j) ns) apart in
    (ap (λ c. cond c (b || seen k) (seen k)) (apart_too n k p.0) ∙ h.0, still_unseen seen n b ns p.1 h.1)

-- ---- the value of one row

-- An item, or its absence, decodes to this value, where an absent item decodes to the default.
pub record Falls {M : Type 0} (kind : Kind M) (default : M) (o : Option Item) (y : M) : Type 0 where
  pub value : unwrap_or (o >>= kind) default ≡ y
  pub accepted : (i : Item) → o ≡ Some i → is_some (kind i) ≡ true

pub accepts_it : {M : Type 0} (kind : Kind M) (j : Item) (y : M) → kind j ≡ Some y → (i : Item) → Some j ≡ Some i
    → is_some (kind i) ≡ true
accepts_it kind j y h i e = grind arith

none_there : {M : Type 0} (kind : Kind M) (i : Item) → None ≡ Some i → is_some (kind i) ≡ true
none_there kind i e = absurd cc

given_it : {M : Type 0} (kind : Kind M) (default : M) (j : Item) (y : M) → kind j ≡ Some y
    → Falls kind default (Some j) y
given_it {M} kind default j y h = grind (arith, accepts_it)

pub option_place : {A M : Type 0} {kind : Kind (Option M)} {tree : A → Item} {Fits : A → Type 0} {normal : A → M}
    → IsReadBack kind tree Fits (λ x. Some (normal x)) → (o : Option A) → IfPresent Fits o
    → Falls kind None (option_map tree o) (option_map normal o)
option_place {kind = kind} r None h = record { value = refl; accepted = none_there kind }
option_place {kind = kind} {tree = tree} {normal = normal} r (Some x) h = grind (arith, given_it)

-- a flag that is encoded only if it is true decodes to itself
pub true_place : (key : Item) (b : Bool) → Falls truth_from true (where_true key b).1 true
true_place key true = given_it truth_from true (boolean true) true refl
true_place key false = record { value = refl; accepted = none_there truth_from }

-- the same for an equal value
pub falls_as : {M : Type 0} {kind : Kind M} {default : M} {o : Option Item} {y z : M} → y ≡ z
    → Falls kind default o y → Falls kind default o z
falls_as e h = record { value = h.value ∙ e; accepted = h.accepted }

-- ---- what the members of the places put

-- the numbers of the rows, in their order
abbrev pub numbers : {P : Type 0} → List (Member P) → List ℕ
numbers [] = []
numbers (m ∷ ms) = m.entry.number ∷ numbers ms

abbrev pub put_if : {P : Type 0} → Member P → Option Item → P → P
put_if m None r = r
put_if m (Some i) r = set_with m.set (m.kind.of i) r

abbrev pub put_places : {P : Type 0} → List (Member P) → List Place → P → P
put_places [] ps r = r
put_places (m ∷ ms) [] r = r
put_places (m ∷ ms) (p ∷ ps) r = put_places ms ps (put_if m p.1 r)

-- The table finds each of these rows by its number.
abbrev pub Finds : {P : Type 0} → List (Member P) → List (Member P) → Type 0
Finds all [] = Unit {0}
Finds {P} all (m ∷ ms) = ((i : Item) → accepts_at (rows_of all) m.entry.number i ≡ is_some (m.kind.of i))
    × ((i : Item) (r : P) → put_at all m.entry.number i r ≡ set_with m.set (m.kind.of i) r) × Finds all ms

finds_more : {P : Type 0} (f : Member P) (all ms : List (Member P))
    → list_any (λ n. f.entry.number == n) (numbers ms) ≡ false → Finds all ms → Finds (f ∷ all) ms
finds_more f all [] apart h = tt
finds_more f all (m ∷ ms) apart h =
    let p = or_parts (f.entry.number == m.entry.number) (list_any (λ n. f.entry.number == n) (numbers ms)) apart in
    (λ i. rw p.0 (h.0 i), λ i r. rw p.0 (h.1 i r), finds_more f all ms p.1 h.2)

finds_all : {P : Type 0} (ms : List (Member P)) → are_distinct (numbers ms) ≡ true → Finds ms ms
finds_all [] apart = tt
finds_all (m ∷ ms) apart =
    let d = and_parts (not (list_any (λ n. m.entry.number == n) (numbers ms))) (are_distinct (numbers ms)) apart in (
      λ i. rw ((unsigned_Decides m.entry.number m.entry.number).1 refl) refl,
      λ i r. rw ((unsigned_Decides m.entry.number m.entry.number).1 refl) refl,
      finds_more m ms ms (not-true (list_any (λ n. m.entry.number == n) (numbers ms)) d.0) (finds_all ms d.1),
    )

abbrev FitAll : {P : Type 0} → List (Member P) → List Place → Type 0
FitAll [] ps = Unit {0}
FitAll (m ∷ ms) [] = Unit {0}
FitAll (m ∷ ms) (p ∷ ps) = ((i : Item) → p.1 ≡ Some i → is_some (m.kind.of i) ≡ true) × FitAll ms ps

module _ {P : Type 0} (t : Fields P) where
  absent_same : (b seen : Bool) → seen ≡ cond b seen seen
  absent_same true seen = refl
  absent_same false seen = refl

  given_same : (b seen : Bool) → b || seen ≡ cond b true seen
  given_same true seen = refl
  given_same false seen = refl

  with_place : (m : Member P) (key : Item) (o : Option Item) (ms : Members) (s : Progress P)
      → named (table_of t) key ≡ row m.entry.number → s.seen m.entry.number ≡ false
      → ((i : Item) → accepts_at (rows_of t.rows) m.entry.number i ≡ is_some (m.kind.of i))
      → ((i : Item) (r : P) → put_at t.rows m.entry.number i r ≡ set_with m.set (m.kind.of i) r)
      → ((i : Item) → o ≡ Some i → is_some (m.kind.of i) ≡ true) → read_from t (under key o ++ ms) s
      ≡ read_from t ms (record {
        seen = λ k. cond (k == m.entry.number) (is_some o || s.seen k) (s.seen k);
        made = put_if m o s.made;
      })
  with_place m key None ms s e unseen accepts puts fit = λ j. read_from t ms
      (record { seen = λ k. absent_same (k == m.entry.number) (s.seen k) j; made = s.made })
  with_place m key (Some i) ms s e unseen accepts puts fit =
      ap (λ (n : Naming). result_and_then (λ r. read_from t ms r) (one_more t n i s)) e
      ∙ ap (result_and_then (λ r. read_from t ms r)) good where
        good : one_more t (row m.entry.number) i s ≡ Ok (record {
          seen = λ k. cond (k == m.entry.number) true (s.seen k);
          made = set_with m.set (m.kind.of i) s.made;
        })
        good = grind (arith, given_same)

  with_laid : (fs : List (Member P)) (ps : List Place) (s : Progress P) → Finds t.rows fs
      → have_rows (table_of t) (numbers fs) ps ≡ true → are_distinct (numbers fs) ≡ true → FitAll fs ps
      → AllUnseen s.seen (numbers fs) → read_from t (laid ps) s ≡ read_from t []
      (record { seen = named_after (numbers fs) ps s.seen; made = put_places fs ps s.made })
  with_laid [] [] s finds keys apart fit unseen = refl
  with_laid [] (p ∷ ps) s finds keys apart fit unseen = absurd cc
  with_laid (m ∷ fs) [] s finds keys apart fit unseen = absurd cc
  with_laid (m ∷ fs) (p ∷ ps) s finds keys apart fit unseen =
      let n = m.entry.number in
      let k = and_parts (is_row n (named (table_of t) p.0)) (have_rows (table_of t) (numbers fs) ps) keys in
      let d = and_parts (not (list_any (λ j. n == j) (numbers fs))) (are_distinct (numbers fs)) apart in
      with_place m p.0 p.1 (laid ps) s (names_it (named (table_of t) p.0) n k.0) unseen.0 finds.0 finds.1 fit.0
      ∙ with_laid fs ps _ finds.2 k.1 d.1 fit.1 (still_unseen s.seen n (is_some p.1) (numbers fs)
      (not-true (list_any (λ j. n == j) (numbers fs)) d.0) unseen.1)

-- ---- what one place puts

-- A row accepts the value of its place, and makes the record `new` out of `old`.
pub record Puts {P : Type 0} (m : Member P) (o : Option Item) (old new : P) : Type 0 where
  pub accepted : (i : Item) → o ≡ Some i → is_some (m.kind.of i) ≡ true
  pub put : put_if m o old ≡ new

set_some : {M P : Type 0} (set : M → P → P) (k : Option M) (default y : M) (old : P) → is_some k ≡ true
    → unwrap_or k default ≡ y → set_with set k old ≡ set y old
set_some set None default y old e h = absurd cc
set_some set (Some z) default y old e h = ap (λ v. set v old) h

-- a value that is always encoded
pub puts_value : {P A : Type 0} {m : Member P} {tree : A → Item} {Fits : A → Type 0} {normal : A → m.Of} {old : P}
    → IsReadBack m.kind.of tree Fits normal → (x : A) → Fits x → Puts m (Some (tree x)) old (m.set (normal x) old)
puts_value {P} {A} {m} {tree} {Fits} {normal} {old} r x h = grind (arith, accepts_it, set_with)

falls_put : {P : Type 0} (m : Member P) (default y : m.Of) (o : Option Item) (old : P) → Falls m.kind.of default o y
    → m.set default old ≡ old → put_if m o old ≡ m.set y old
falls_put m default y None old f same = sym same ∙ ap (λ v. m.set v old) f.value
falls_put m default y (Some i) old f same = set_some m.set (m.kind.of i) default y old (f.accepted i refl) f.value

-- a value that may be absent, and is then the default
pub puts_default : {P : Type 0} {m : Member P} {default y : m.Of} {o : Option Item} {old : P}
    → Falls m.kind.of default o y → m.set default old ≡ old → Puts m o old (m.set y old)
puts_default {P} {m} {default} {y} {o} {old} f same = grind (arith, falls_put)

-- ---- what all places put

-- The places' values are accepted, and make the record `new` out of `old`.
pub record Backs {P : Type 0} (ms : List (Member P)) (ps : List Place) (old new : P) : Type 0 where
  pub fit : FitAll ms ps
  pub made : put_places ms ps old ≡ new

pub no_more : {P : Type 0} {x : P} → Backs [] [] x x
no_more = record { fit = tt; made = refl }

infixr 5 ◌▸◌
pub ◌▸◌ : {P : Type 0} {m : Member P} {p : Place} {ms : List (Member P)} {ps : List Place} {old next new : P}
    → Puts m p.1 old next → Backs ms ps next new → Backs (m ∷ ms) (p ∷ ps) old new
◌▸◌ {ms = ms} {ps = ps} here rest =
    record { fit = (here.accepted, rest.fit); made = ap (put_places ms ps) here.put ∙ rest.made }

-- the rows with these numbers, in this order
abbrev either : {A : Type 1} → Bool → A → A → A
either true x y = x
either false x y = y

abbrev member_at : {P : Type 0} → List (Member P) → ℕ → List (Member P) → List (Member P)
member_at [] n rest = rest
member_at (m ∷ ms) n rest = either (m.entry.number == n) (m ∷ rest) (member_at ms n rest)

abbrev pub picked : {P : Type 0} → List (Member P) → List ℕ → List (Member P)
picked all [] = []
picked all (n ∷ ns) = member_at all n (picked all ns)

-- members laid out in this order can be decoded again
pub picked_back : {P : Type 0} (t : Fields P) (fs : List (Member P)) (ps : List Place) (x : P) → Finds t.rows fs
    → (have_rows (table_of t) (numbers fs) ps && are_distinct (numbers fs)) ≡ true
    → missing_of (table_of t) (numbers fs) ps ≡ None → Backs fs ps t.blank x → read_item t (record_tree ps) ≡ Ok x
picked_back t fs ps x finds keys complete backs =
    let k = and_parts (have_rows (table_of t) (numbers fs) ps) (are_distinct (numbers fs)) keys in
    ap (read_members t) (members-pairs_of (laid ps))
    ∙ with_laid t fs ps _ finds k.0 k.1 backs.fit (all_unseen (numbers fs))
    ∙ (λ j. unless_missing (complete j) (backs.made j))

-- members laid out in the order of the rows can be decoded again
pub rows_back : {P : Type 0} (t : Fields P) (ps : List Place) (x : P)
    → (have_rows (table_of t) (numbers t.rows) ps && are_distinct (numbers t.rows)) ≡ true
    → missing_of (table_of t) (numbers t.rows) ps ≡ None → Backs t.rows ps t.blank x → read_item t (record_tree ps) ≡ Ok x
rows_back t ps x keys complete backs =
    picked_back t t.rows ps x (finds_all t.rows (and_parts (have_rows (table_of t) (numbers t.rows) ps)
    (are_distinct (numbers t.rows)) keys).1) keys complete backs

pub kind_back : {P : Type 0} (t : Fields P) (ps : List Place) (x : P)
    → (have_rows (table_of t) (numbers t.rows) ps && are_distinct (numbers t.rows)) ≡ true
    → missing_of (table_of t) (numbers t.rows) ps ≡ None → Backs t.rows ps t.blank x → record_kind t (record_tree ps) ≡ Some x
kind_back t ps x keys complete backs = ap result_ok (rows_back t ps x keys complete backs)
