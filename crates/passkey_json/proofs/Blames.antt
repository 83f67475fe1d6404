-- What is to blame in lists, maps and records.
use Rattle.std.proofs.Common.{◌≡◌, ◌∙◌, ◌==◌, ℕ, suc, Bool, true, false, List, [], ◌∷◌, map, Option, Some, None, option_map, option_and_then, Result, Ok, Err, IfOk, if◌then◌else◌, refl, sym, ap, subst}
use Rattle.std.proofs.lemmas.Bool.{eq-eqb}
use Rattle.std.specs.Prelude.{IfSome}
use Rattle.std.specs.Str.{bytes_eq}
use Rattle.passkey_json.specs.Along.{accepted_shape, tolerant_shape}
use Rattle.passkey_json.specs.Blame.{Blames, BlamesPart, IsBlamed, fault_reason, path_of, reason_of, step_of, wanted}
use Rattle.passkey_json.specs.Fault.{Fault}
use Rattle.passkey_json.specs.Kind.{Kind}
use Rattle.passkey_json.specs.Shape.{Entry, Part, Shape, Step, Tested, decoded_as, entries_in, entry_at, entry_named, entry_of, faulty_row, first_element, named, part, present_in, row_at, row_in, within}
use Rattle.passkey_json.specs.Members.{in_object}
use Rattle.passkey_json.specs.Table.{JsonMember, PlainTable, entries, members_in, rows_in, shape_from, table_shape}
use Rattle.passkey_json.specs.declared.blame.JsonBlame.{JsonBlame}
use Rattle.passkey_json.specs.declared.blame.JsonReason.{JsonReason}
use Rattle.passkey_json.specs.declared.blame.JsonReason.TheVariants as reason
use Rattle.passkey_json.specs.declared.blame.JsonStep.{JsonStep}
use Rattle.passkey_json.specs.declared.row.Row.{Row}
use Rattle.passkey_json.specs.declared.wanted.WantedJson.TheVariants as want
use Rattle.passkey_memory.specs.declared.OutOfMemory.{OutOfMemory as NoMemory}
use Rattle.serde_json.specs.Data.{Data, array, Items, no_items, item}

-- the blame of a part, as seen from the whole
abbrev IsUnder : JsonStep → JsonBlame → JsonBlame → Type 0
IsUnder step inner b = (path_of b ≡ step_of step ∷ path_of inner) × (b.reason ≡ inner.reason)

-- what is blamed in the part that the shape blames is blamed in the whole
pub blames_under : (s : Shape) (d : Data) (p : Part) (step : JsonStep) (inner : JsonBlame) (r : Result JsonBlame NoMemory)
    → within s d ≡ Some p → p.step ≡ step_of step → Blames p.as_part.shape p.value inner → IfOk r (IsUnder step inner)
    → IfOk r (Blames s d)
blames_under s d p step inner (Ok b) at same blamed h =
    subst (λ (why : JsonReason). IsBlamed (path_of b) (reason_of why) s d) (sym h.1)
    (subst (λ (ts : List Step). IsBlamed ts (reason_of inner.reason) s d) (sym h.0) (p, (at, (same, blamed))))
blames_under s d p step inner (Err e) at same blamed h = tt

-- ---- lists of which no element is refused

none_refused : (s : Shape) (n : ℕ) (ds : Items) → first_element (record { accepts = λ d. true; shape = s }) n ds ≡ None
none_refused s n no_items = refl
none_refused s n (item d ds) = none_refused s (suc n) ds

none_within : {A : Type 0} (kind : Kind A) (s : Shape) (d : Data) → within (accepted_shape kind s) d ≡ None
none_within kind s (array ds) = none_refused (tolerant_shape kind s) 0 ds
none_within kind s _ = refl

pub accepted_blames : {A : Type 0} (kind : Kind A) (s : Shape) (d : Data) (b : JsonBlame) → path_of b ≡ []
    → b.reason ≡ reason.Wanted want.Array → Blames (accepted_shape kind s) d b
accepted_blames kind s d b empty why =
    subst (λ (ts : List Step). IsBlamed ts (reason_of b.reason) (accepted_shape kind s) d) (sym empty)
    (none_within kind s d, ap reason_of why)

-- ---- where any value is tolerated

pub tolerant_blames : {A : Type 0} (kind : Kind A) (s : Shape) (d : Data) (r : Result JsonBlame NoMemory)
    → IfOk r (Blames s d) → IfOk r (Blames (tolerant_shape kind s) d)
tolerant_blames kind s d (Ok b) h = by_path (path_of b) h where
  by_path : (ts : List Step) → IsBlamed ts (reason_of b.reason) s d
      → IsBlamed ts (reason_of b.reason) (tolerant_shape kind s) d
  by_path [] h = h
  by_path (t ∷ ts) h = h
tolerant_blames kind s d (Err e) h = tt

-- ---- records

-- the row's part of the record's shape, and the member's shape
abbrev RowIn : {P : Type 0} → List (JsonMember P) → ℕ → Type 0
RowIn ms n = (u : Tested) × ((row_in (rows_in ms) n ≡ Some u) × (shape_from ms n ≡ Some u.shape))

row_there : {P : Type 0} (name : List ℕ) (ms : List (JsonMember P)) (e : Entry) → entry_named (entries ms) name ≡ Some e
    → RowIn ms e.number
row_there name [] e h = absurd cc
row_there {P} name (m ∷ ms) e h = by_name (λ g. row_there name ms e g) (bytes_eq name m.entry.name) h where
  by_number : (n : ℕ) → RowIn ms n → (b : Bool) → (n == m.entry.number) ≡ b → RowIn (m ∷ ms) n
  by_number n later true is = rw is (record { accepts = m.accepts; shape = m.shape }, (refl, refl))
  by_number n later false is = rw is later

  by_name : (entry_named (entries ms) name ≡ Some e → RowIn ms e.number) → (b : Bool)
      → (if b then Some m.entry else entry_named (entries ms) name) ≡ Some e → RowIn (m ∷ ms) e.number
  by_name later true g =
      let is : m.entry ≡ e = cc in
      subst (λ (x : Entry). RowIn (m ∷ ms) x.number) is
      (rw (eq-eqb m.entry.number m.entry.number refl) (record { accepts = m.accepts; shape = m.shape }, (refl, refl)))
  by_name later false g = by_number e.number (later g) (e.number == m.entry.number) refl

same_entries : {P : Type 0} (ms : List (JsonMember P)) → entries_in (rows_in ms) ≡ entries ms
same_entries [] = refl
same_entries (m ∷ ms) = ap (λ (es : List Entry). m.entry ∷ es) (same_entries ms)

-- there is nothing to blame but the whole value
whole_blamed : (o : Option Part) (b : JsonBlame) → o ≡ None → path_of b ≡ [] → b.reason ≡ reason.Wanted want.Object
    → BlamesPart o b
whole_blamed o b none empty why = rw none (empty, ap reason_of why)

module _ {P : Type 0} (ms : List (JsonMember P)) (d : Data) (name : List ℕ) (rows : List Row)
    (same : map entry_of rows ≡ entries ms) where
  named_in : (o : Option Row) → option_map entry_of o ≡ entry_named (map entry_of rows) name
      → entry_named (entries ms) name ≡ option_map entry_of o
  named_in o found = sym (found ∙ ap (λ (es : List Entry). entry_named es name) same)

  row_found : (o : Option Row) → option_map entry_of o ≡ entry_named (map entry_of rows) name
      → row_at (rows_in ms) name d ≡ option_and_then (entry_at (rows_in ms) d) (option_map entry_of o)
  row_found o found =
      ap (λ (es : List Entry). option_and_then (entry_at (rows_in ms) d) (entry_named es name)) (same_entries ms)
      ∙ ap (option_and_then (entry_at (rows_in ms) d)) (named_in o found)

  pub no_row : option_map entry_of None ≡ entry_named (map entry_of rows) name → (b : JsonBlame) → path_of b ≡ []
      → b.reason ≡ reason.Wanted want.Object → BlamesPart (row_at (rows_in ms) name d) b
  no_row found b = whole_blamed (row_at (rows_in ms) name d) b (row_found None found)

  module _ (r : Row) (found : option_map entry_of (Some r) ≡ entry_named (map entry_of rows) name) where
    pub row_absent : None ≡ present_in (entry_of r) d → (b : JsonBlame) → path_of b ≡ []
        → b.reason ≡ reason.Wanted want.Object → BlamesPart (row_at (rows_in ms) name d) b
    row_absent none b =
        whole_blamed (row_at (rows_in ms) name d) b
        (row_found (Some r) found ∙ ap (decoded_as (rows_in ms) (entry_of r).number) (sym none))

    pub row_blamed : (k : List ℕ) (x : Data) → Some (k, x) ≡ present_in (entry_of r) d → (inner : JsonBlame)
        → IfSome (shape_from ms (entry_of r).number) (λ (s : Shape). Blames s x inner) → (step : JsonStep)
        → step_of step ≡ named k → (result : Result JsonBlame NoMemory) → IfOk result (IsUnder step inner)
        → IfOk result (BlamesPart (row_at (rows_in ms) name d))
    row_blamed k x there inner blamed step is (Ok b) h =
        let t = row_there name ms (entry_of r) (named_in (Some r) found) in
        let n : ℕ = (entry_of r).number in
        let p : Part = part (named k) x t.0 in
        let at : row_at (rows_in ms) name d ≡ Some p =
        row_found (Some r) found ∙ ap (decoded_as (rows_in ms) n) (sym there) ∙ ap (option_map (part (named k) x)) t.1.0 in
        let inside : Blames t.0.shape x inner =
        subst (λ (o : Option Shape). IfSome o (λ (s : Shape). Blames s x inner)) t.1.1 blamed in
        subst (λ (o : Option Part). BlamesPart o b) (sym at) (
          path_of inner,
          (
            h.0 ∙ ap (λ (s : Step). s ∷ path_of inner) is,
            subst (λ (why : JsonReason). IsBlamed (path_of inner) (reason_of why) t.0.shape x) (sym h.1) inside,
          ),
        )
    row_blamed k x there inner blamed step is (Err e) h = tt

-- what is blamed for the fault of a row is what the record blames
module _ {P : Type 0} (t : PlainTable P) (d : Data) (f : Fault) (name : List ℕ)
    (given : in_object (members_in t) d ≡ Err f)
    (at : faulty_row (rows_in t.members) (Some f) d ≡ row_at (rows_in t.members) name d)
    (object : fault_reason (Some f) ≡ wanted want.Object) where
  part_blamed : (o : Option Part) → row_at (rows_in t.members) name d ≡ o → (b : JsonBlame) → BlamesPart o b
      → Blames (table_shape t) d b
  part_blamed None is b h =
      subst (λ (ts : List Step). IsBlamed ts (reason_of b.reason) (table_shape t) d) (sym h.0)
      (rw given (at ∙ is, h.1 ∙ sym object))
  part_blamed (Some p) is b h =
      subst (λ (ts : List Step). IsBlamed ts (reason_of b.reason) (table_shape t) d) (sym h.1.0)
      (p, (rw given (at ∙ is), (refl, h.1.1)))

  pub record_blames : (r : Result JsonBlame NoMemory) → IfOk r (BlamesPart (row_at (rows_in t.members) name d))
      → IfOk r (Blames (table_shape t) d)
  record_blames (Ok b) h = part_blamed (row_at (rows_in t.members) name d) refl b h
  record_blames (Err e) h = tt
