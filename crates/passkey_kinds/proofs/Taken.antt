-- A part of a decoded record is what one row's kind says of the first member that names the row.
use Rattle.passkey_kinds.proofs.Common.{Item, byte_string, Kind, Entry, Fields, Member, Members, set_with, rows_of, table_of, put_at, first_missing, unless_missing, one_more, Progress, result_and_then, read_from, entries, named, Naming, row, unknown, wrong, accepts_at, members, DataParts, read_data, data_from, ◌≡◌, ◌∙◌, ◌==◌, ◌&&◌, ℕ, arith, Bool, true, false, List, [], ◌∷◌, Option, Some, None, is_some, refl, sym, ap, Ok, nat_tests, cases_eq, true≢false, inl, inr, option_and_then, list_any}
use Rattle.passkey_cbor.specs.Item as item
use Rattle.passkey_kinds.specs.Lending.{value_if, value_among, string_in, AuthDataAreLent}
use Rattle.passkey_kinds.proofs.Keeping.{ok_of}

-- Row n puts its kind's value into the part; another row leaves the part as it is.
abbrev pub RowPuts : {P X : Type 0} → Bool → (P → X) → Kind X → Member P → Type 0
RowPuts {P} true get kind m = (i : Item) (v : m.Of) (r : P) → m.kind.of i ≡ Some v → kind i ≡ Some (get (m.set v r))
RowPuts {P} false get kind m = (v : m.Of) (r : P) → get (m.set v r) ≡ get r

abbrev pub OnlyRow : {P X : Type 0} → ℕ → (P → X) → Kind X → List (Member P) → Type 0
OnlyRow n get kind [] = Unit {0}
OnlyRow n get kind (m ∷ ms) = RowPuts (m.entry.number == n) get kind m × OnlyRow n get kind ms

abbrev pub is_required : ℕ → List Entry → Bool
is_required n rows = list_any (λ (e : Entry). (e.number == n) && e.is_required) rows

none_missing : (n : ℕ) (rows : List Entry) (seen : ℕ → Bool) → is_required n rows ≡ true
    → first_missing rows seen ≡ None → seen n ≡ true
none_missing n [] seen some none = absurd cc
none_missing n (e ∷ es) seen some none = grind (arith, nat_tests, none_missing n es seen)

module _ {P X : Type 0} (n : ℕ) (get : P → X) (kind : Kind X) where
  set_other : {M : Type 0} (set : M → P → P) (o : Option M) (r : P) → ((v : M) (r : P) → get (set v r) ≡ get r)
      → get (set_with set o r) ≡ get r
  set_other set None r h = refl
  set_other set (Some v) r h = h v r

  put_other : (fs : List (Member P)) (k : ℕ) (i : Item) (r : P) → OnlyRow n get kind fs → (k == n) ≡ false
      → get (put_at fs k i r) ≡ get r
  put_other [] k i r all other = refl
  put_other (f ∷ fs) k i r all other = grind (arith, nat_tests, set_other, put_other fs k i r)

  set_here : {M : Type 0} (set : M → P → P) (i : Item) (o : Option M) (r : P)
      → ((v : M) (r : P) → o ≡ Some v → kind i ≡ Some (get (set v r))) → is_some o ≡ true
      → kind i ≡ Some (get (set_with set o r))
  set_here set i None r h some = absurd cc
  set_here set i (Some v) r h some = h v r refl

  put_here : (fs : List (Member P)) (i : Item) (r : P) → OnlyRow n get kind fs → accepts_at (rows_of fs) n i ≡ true
      → kind i ≡ Some (get (put_at fs n i r))
  put_here [] i r all accepted = absurd cc
  put_here (f ∷ fs) i r all accepted = grind (arith, nat_tests, set_here, put_here fs i r)

  missing_ok : (missing : Option ℕ) (r p : P) → unless_missing missing r ≡ Ok p → (missing ≡ None) × (r ≡ p)
  missing_ok None r p e = (refl, cc)
  missing_ok (Some k) r p e = absurd cc

  module _ (t : Fields P) (only : OnlyRow n get kind t.rows) (p : P) where
    -- a row is named once, so the part stays
    stays_after : (ms : Members) → ((s : Progress P) → s.seen n ≡ true → read_from t ms s ≡ Ok p → get p ≡ get s.made)
        → (naming : Naming) (i : Item) (s : Progress P) → s.seen n ≡ true
        → result_and_then (read_from t ms) (one_more t naming i s) ≡ Ok p → get p ≡ get s.made
    stays_after ms next (row k) i s there e = grind (arith, nat_tests, put_other)
    stays_after ms next unknown i s there e = next s there e
    stays_after ms next wrong i s there e = absurd cc

    stays : (ms : Members) (s : Progress P) → s.seen n ≡ true → read_from t ms s ≡ Ok p → get p ≡ get s.made
    stays [] s there e =
        sym (ap get (missing_ok (first_missing (entries (table_of t)) s.seen) s.made p e).1)
    stays (m ∷ ms) s there e = stays_after ms (stays ms) (named (table_of t) m.0) m.1 s there e

    -- the part is what the kind says of the wanted value
    record IsKindOf (wanted : Option Item) : Type 0 where
      value : Item
      is : wanted ≡ Some value
      said : kind value ≡ Some (get p)

    found_after : (ms : Members) → ((s : Progress P) → s.seen n ≡ false → read_from t ms s ≡ Ok p
        → IsKindOf (value_among (table_of t) n ms)) → (naming : Naming) (i : Item) (s : Progress P) → s.seen n ≡ false
        → result_and_then (read_from t ms) (one_more t naming i s) ≡ Ok p
        → IsKindOf (value_if n naming i (value_among (table_of t) n ms))
    found_after ms next (row k) i s absent e =
        elim (cases_eq k n) [
          | inl same ↦ record {
            value = i;
            is = grind (arith, nat_tests);
            said = grind (arith, nat_tests, put_here, stays);
          }
          | inr other ↦ grind (arith, nat_tests, next)
        ]
    found_after ms next unknown i s absent e = next s absent e
    found_after ms next wrong i s absent e = absurd cc

    found : is_required n (entries (table_of t)) ≡ true → (ms : Members) (s : Progress P) → s.seen n ≡ false
        → read_from t ms s ≡ Ok p → IsKindOf (value_among (table_of t) n ms)
    found wanted [] s absent e =
        let none = (missing_ok (first_missing (entries (table_of t)) s.seen) s.made p e).0 in
        absurd (true≢false (sym (none_missing n (entries (table_of t)) s.seen wanted none) ∙ absent))
    found wanted (m ∷ ms) s absent e =
        found_after ms (found wanted ms) (named (table_of t) m.0) m.1 s absent e

-- ---- authenticator data, in row 2

data_in : (i : Item) (d : DataParts) → data_from i ≡ Some d
    → (s : List ℕ) × ((string_in i ≡ Some s) × (read_data s ≡ Ok d))
data_in (byte_string s) d e = (s, (refl, ok_of (read_data s) d e))
data_in i d e = absurd cc

pub auth_data_lent : {P : Type 0} (t : Fields P) (auth_data : P → DataParts)
    → OnlyRow 2 auth_data data_from t.rows → is_required 2 (entries (table_of t)) ≡ true
    → AuthDataAreLent t auth_data
auth_data_lent t auth_data only wanted (item.map ps) p e =
    let f = found 2 auth_data data_from t only p wanted (members ps) _ refl e in
    let d = data_in f.value (auth_data p) f.said in
    (d.0, (ap (option_and_then string_in) f.is ∙ d.1.0, d.1.1))
auth_data_lent t auth_data only wanted i p e = absurd cc
