-- What decoded records keep: values that aren't null, and what holds of each value that is put.
use Rattle.passkey_kinds.proofs.Common.{depth, pairs_depth, Item, Pairs, no_pairs, pair, members, null, Kind, optional_from, Fields, set_with, rows_of, table_of, put_at, unless_missing, one_more, Progress, result_and_then, read_from, read_item, Member, entries, named, first_missing, Naming, row, unknown, wrong, accepts_at, Repeated, Fault, ◌≡◌, ◌<◌, ℕ, arith, Bool, true, false, if◌then◌else◌, List, [], ◌∷◌, Option, Some, None, option_map, refl, Result, subst, Ok, Err, set, IfOk, result_ok}
use Rattle.passkey_kinds.specs.declared.fault.Fault.TheVariants as fault
use Rattle.passkey_cbor.specs.Item as item

-- ---- a value that isn't null, and a record that is a value

pub ok_of : {M E : Type 0} (r : Result M E) (p : M) → result_ok r ≡ Some p → r ≡ Ok p
ok_of (Ok x) p e = cc
ok_of (Err f) p e = absurd cc

some_of : {M : Type 0} (o : Option M) (x : M) → option_map Some o ≡ Some (Some x) → o ≡ Some x
some_of None x e = absurd cc
some_of (Some y) x e = cc

-- an optional value that is decoded and isn't `None`
pub not_null : {M : Type 0} (kind : Kind M) (i : Item) (x : M) → optional_from kind i ≡ Some (Some x) → kind i ≡ Some x
not_null kind item.null x e = absurd cc
not_null kind i x e = some_of (kind i) x e

-- ---- what holds of the blank record, and still holds after each value is put into it, holds of the
-- decoded record

-- each member preserves it, for items of fewer levels than n
abbrev pub Keeps : {P : Type 0} → ℕ → (P → Type 0) → List (Member P) → Type 0
Keeps n Inv [] = Unit {0}
Keeps {P} n Inv (m ∷ ms) =
    ((i : Item) (v : m.Of) (r : P) → depth i < n → m.kind.of i ≡ Some v → Inv r → Inv (m.set v r)) × Keeps n Inv ms

if_some : {M P : Type 0} (Inv : P → Type 0) (set : M → P → P) (o : Option M) (r : P)
    → ((v : M) → o ≡ Some v → Inv (set v r)) → Inv r → Inv (set_with set o r)
if_some Inv set None r here h = h
if_some Inv set (Some v) r here h = here v refl

module _ {P : Type 0} (n : ℕ) (Inv : P → Type 0) where
  put_keeps : (fs : List (Member P)) (k : ℕ) (i : Item) (r : P) → Keeps n Inv fs → depth i < n → Inv r
      → Inv (put_at fs k i r)
  put_keeps [] k i r all less h = h
  put_keeps (f ∷ fs) k i r all less h = grind (arith, if_some, put_keeps fs k i r all.1 less h)

  one_keeps : (seen accepted : Bool) (k : ℕ) (s : Progress P) → Inv s.made → IfOk (if seen
      then Err (fault.Repeated k) else (if accepted then Ok s else Err (fault.Refused k))) (λ r. Inv r.made)
  one_keeps true accepted k s h = tt
  one_keeps false true k s h = h
  one_keeps false false k s h = tt

  more_keeps : (t : Fields P) (naming : Naming) (i : Item) (s : Progress P) → Keeps n Inv t.rows → depth i < n
      → Inv s.made → IfOk (one_more t naming i s) (λ r. Inv r.made)
  more_keeps t (row k) i s all less h =
      one_keeps (s.seen k) (accepts_at (rows_of t.rows) k i) k _ (put_keeps t.rows k i s.made all less h)
  more_keeps t unknown i s all less h = h
  more_keeps t wrong i s all less h = tt

  then_keeps : (f : Progress P → Result P Fault) (r : Result (Progress P) Fault) → IfOk r (λ s. Inv s.made)
      → ((s : Progress P) → Inv s.made → IfOk (f s) Inv) → IfOk (result_and_then f r) Inv
  then_keeps f (Ok s) h rest = rest s h
  then_keeps f (Err e) h rest = tt

  none_keeps : (missing : Option ℕ) (r : P) → Inv r → IfOk (unless_missing missing r) Inv
  none_keeps (Some n) r h = tt
  none_keeps None r h = h

  members_keep : (t : Fields P) (ps : Pairs) (s : Progress P) → Keeps n Inv t.rows → pairs_depth ps < n
      → Inv s.made → IfOk (read_from t (members ps) s) Inv
  members_keep t no_pairs s all less h = none_keeps (first_missing (entries (table_of t)) s.seen) s.made h
  members_keep t (pair k v ps) s all less h =
      then_keeps (λ r. read_from t (members ps) r) (one_more t (named (table_of t) k) v s)
      (more_keeps t (named (table_of t) k) v s all (omega (arith, less)) h)
      (λ r kept. members_keep t ps r all (omega (arith, less)) kept)

-- what each row preserves holds of a decoded record
pub record_keeps : {P : Type 0} (t : Fields P) (Inv : P → Type 0) (i : Item) (p : P) → read_item t i ≡ Ok p
    → (0 < depth i → Inv t.blank) → Keeps (depth i) Inv t.rows → Inv p
record_keeps t Inv (item.map ps) p e begun all = subst (λ (r : Result _ Fault). IfOk r Inv) e
    (members_keep (depth (item.map ps)) Inv t ps _ all (omega arith) (begun (omega arith)))
record_keeps t Inv _ p e begun all = absurd cc
