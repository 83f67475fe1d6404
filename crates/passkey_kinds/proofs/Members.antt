-- A record's members, decoded one after the other.
use Rattle.passkey_cbor.specs.Item.{pairs_of}
use Rattle.passkey_kinds.proofs.Lists.{mapped_at}
use Rattle.passkey_kinds.proofs.Common.{item_of-Map, pairs_of-members, Item, members-pairs_of, AnswersAs, Typed, members_in, MayGrowIn, Reads, MayGrowBy, takes_at, Fields, set_with, rows_of, table_of, put_at, one_more, Progress, progress_of, result_and_then, read_from, read_members, read_item, Entry, Table, entries, named, Members, Naming, row, accepts_at, row_or_unknown, names, HasReadTo, Sets, Puts, as_nested, Fault, Refusal, ◌≡◌, ◌∙◌, ◌<◌, ℕ, arith, Bool, true, false, List, [], ◌∷◌, length, map, replicate, get_or, Some, None, is_some, inl, inr, sym, ap, Result, subst, Ok, Err, OnOk, ◌==◌, set, ◌||◌, and_parts, leb-true, cases_lt, get_or-set_same, get_or-set_other, get_or-replicate, get_or_past, length-replicate, find, result_ok}
use Rattle.passkey_kinds.specs.declared.fault.Fault.TheVariants.{Refused}
use Rattle.passkey_kinds.specs.declared.fault.Fault.TheVariants as fault
use Rattle.passkey_kinds.specs.Record.{unmarked}
use Rattle.passkey_cbor.specs.Item as item
use Rattle.passkey_kinds.specs.declared.fault.Refusal.TheVariants as refusal

-- the code and the table agree on what a key names
pub key_names : (table : Table) (key : Item) {is_numbered : Bool} {rows : List Entry} {naming : Naming}
    → is_numbered ≡ table.is_numbered → rows ≡ entries table → naming ≡ names is_numbered rows key
    → named table key ≡ naming
key_names table key p q e = sym (e ∙ λ i. names (p i) (q i) key)

-- ---- one more member

pub none_marked : (n : ℕ) → get_or unmarked n false ≡ false
unfolding unmarked
none_marked n = elim (cases_lt n 256) [
  | inl less ↦ get_or-replicate 256 n false false less
  | inr past ↦ get_or_past (replicate 256 false) n false (omega (arith, past, length-replicate 256 false))
]

module _ {P : Type 0} (t : Fields P) (held : P) (marks : List Bool) (n : ℕ) (i : Item) where
  pub was_put : (next : P) (more : List Bool) → get_or marks n false ≡ false
      → accepts_at (rows_of t.rows) n i ≡ true → put_at t.rows n i held ≡ next → more ≡ set marks n true
      → n < length marks → one_more t (row n) i (progress_of held marks) ≡ Ok (progress_of next more)
  was_put next more none accepted put marked within =
      rw (none, accepted) (λ j. Ok (record { seen = λ k. also k j; made = put j })) where
        also : (k : ℕ) → (k == n) || get_or marks k false ≡ get_or more k false
        also k = rw marked (grind (arith, get_or-set_same, get_or-set_other))

-- ---- members that are decoded one after the other

pub reads_from : {A P : Type 0} {takes may : Type 0} (view : A → P) (wanted other : Result P Fault)
    (r : Result A Fault) → wanted ≡ other → (takes → may) → Reads view takes other r → Reads view may wanted r
reads_from view wanted other r same grows h = grind arith

module _ {P : Type 0} (t : Fields P) where
  pub has_begun : (ms : Members) (held : P) (marks : List Bool) → held ≡ t.blank → marks ≡ unmarked
      → HasReadTo t ms ms held marks
  has_begun ms held marks empty none = record {
    same = λ j. read_from t ms (record {
      seen = λ n. sym (ap (λ bs. get_or bs n false) none ∙ none_marked n) j;
      made = sym empty j;
    });
    grows = λ h. h;
  }

  module _ (ms rest others : Members) (m : Item × Item) (naming : Naming) (old : P) (marks : List Bool)
      (at : rest ≡ m ∷ others) (names_it : named (table_of t) m.0 ≡ naming) (h : HasReadTo t ms rest old marks) where
    -- all members decode to what this one and the others make of the record
    steps : read_members t ms
        ≡ result_and_then (λ n. read_from t others n) (one_more t naming m.1 (progress_of old marks))
    steps = grind (arith, read_from, progress_of, result_and_then, one_more)

    pub goes_on : (new : P) (next : List Bool) → one_more t naming m.1 (progress_of old marks) ≡ Ok (progress_of new next)
        → HasReadTo t ms others new next
    goes_on new next good = grind (arith, steps, result_and_then, read_from, table_of, inr)

    pub fails : {A : Type 0} (view : A → P) (after : Progress P) (f : Fault) → Reads (λ (u : Unit {0}). after)
        (MayGrowBy (table_of t) naming m.1) (one_more t naming m.1 (progress_of old marks)) (Err f)
        → Reads view (MayGrowIn (table_of t) ms) (read_members t ms) (Err f)
    fails view after f s = grind (arith, steps, h)

  -- all members were decoded
  pub all_read : {A : Type 0} (view : A → P) (ms rest : Members) (held : P) (marks : List Bool) (r : Result A Fault)
      → rest ≡ [] → HasReadTo t ms rest held marks → Reads view ⊥ (read_from t [] (progress_of held marks)) r
      → Reads view (MayGrowIn (table_of t) ms) (read_members t ms) r
  all_read view ms rest held marks r ended h told = grind (arith, reads_from, read_members, read_from, progress_of)

-- an item that isn't a map isn't a record
pub no_record : {P : Type 0} (t : Fields P) (i : Item) → members_in i ≡ None → read_item t i ≡ Err fault.NotAMap
no_record t i h = grind arith

pub members_are : (i : Item) (ms : Members) → members_in i ≡ Some ms → i ≡ item.map (pairs_of ms)
members_are i ms e = grind (arith, pairs_of-members)

-- ---- records inside others

pub held_answers : {A P : Type 0} {takes may : Type 0} (t : Fields P) (view : A → P) (wanted : Result P Fault) (r :
    Result A Fault) → (takes → may) → Reads view takes wanted r → AnswersAs view (result_ok wanted) may (as_nested r)
held_answers t view wanted r grows h = grind arith

pub held_ok : {A : Type 0} (Q : Type 0) (r : Result A Fault) → OnOk r Q → OnOk (as_nested r) Q
held_ok Q r h = grind arith

pub puts_refused : {P : Type 0} (t : Fields P) (n : ℕ) (i : Item) (old new : P) (why : Refusal)
    → why ≡ refusal.Refused → Puts t n i old new (Err why) → accepts_at (rows_of t.rows) n i ≡ false
puts_refused t n i old new why e h = subst (λ (w : Refusal). Puts t n i old new (Err w)) e h

-- setting a field is what its row puts
pub sets_put : {A M P : Type 0} (t : Fields P) (view : A → M) (kind : Typed M) (set : M → P → P) (n k : ℕ) (i : Item)
    (field : A) (old new : P) (result : Result (Unit {0}) Refusal) → n ≡ k
    → accepts_at (rows_of t.rows) k i ≡ is_some (kind.of i) → put_at t.rows k i old ≡ set_with set (kind.of i) old
    → takes_at (rows_of t.rows) k ≡ kind.takes → set (view field) old ≡ new → Sets view kind i field result
    → Puts t n i old new result
sets_put {M = M} t view kind set n k i field old new result same accepts puts may made h = grind arith

-- ---- what the prover needs for one more member, and for the members of a map

pub ruleset reads_one = (was_put, puts_refused)

pub ruleset reads_pairs = (key_names, mapped_at, has_begun, fails)

pub ruleset reads_map = (item_of-Map, members-pairs_of)
