-- Looking at a type.
use Rattle.passkey_kinds.proofs.Common.{Item, Kind, AnswersAs, Entry, Fault, Reads, read_item, record_kind, as_nested, Row, Puts, Refusal, Fields, Member, rows_of, accepts_at, table_of, entries, entry_of, ◌≡◌, ◌∙◌, ◌==◌, ℕ, Bool, true, false, List, [], ◌∷◌, length, map, Option, Some, None, is_some, Result, Ok, Err, if◌then◌else◌, refl, sym, ap, subst}
use Rattle.std.proofs.Common.{Bor, IfOk}
use Rattle.std.specs.Prelude.{IfSome}
use Rattle.std.specs.Option.{option_and_then}
use Rattle.passkey_kinds.specs.Kind.{accepts}
use Rattle.passkey_kinds.specs.Look.{Looks, FoundAs, HasForm, AcceptedIf, tested}
use Rattle.passkey_kinds.proofs.Members.{held_answers}
use Rattle.passkey_kinds.specs.RecordReading.{nested, shape_at, shape_of, shapes_of}
use Rattle.passkey_kinds.specs.Shape.{Shape, leaf, Tested, reached, part_of, row_in, entries_in, kept_by}
use Rattle.passkey_kinds.specs.declared.fault.Refusal.TheVariants.{Refused, OutOfMemory}
use Rattle.passkey_kinds.specs.declared.look.Form.{Form}
use Rattle.passkey_kinds.specs.declared.look.Look.{Look}
use Rattle.passkey_kinds.specs.declared.wanted.Wanted.{Wanted}
use Rattle.passkey_memory.specs.declared.OutOfMemory.{OutOfMemory as NoMemory}
use Rattle.passkey_kinds.specs.declared.look.Form.TheVariants as form

pub accepted_as : {A M : Type 0} (view : A → M) (of : Option M) (takes : Type 0) (read : Result A Refusal) (b : Bool)
    → AnswersAs view of takes read → AcceptedIf read b → b ≡ is_some of
accepted_as view of takes (Ok x) b h a = a ∙ sym (ap is_some h)
accepted_as view of takes (Err Refused) b h a = a ∙ sym (ap is_some h)
accepted_as view of takes (Err OutOfMemory) b h a = absurd a

-- a type that is decoded from a data item as a whole has no parts
pub leaf_looks : {A M : Type 0} (view : A → M) (of : Kind M) (takes : Type 0) (w : Wanted) (way : List ℕ) (i : Item)
    (read : Result A Refusal) (result : Result Look NoMemory)
    → IfOk result (λ l. AcceptedIf read l.is_accepted × (l.form ≡ form.Leaf w) × (l.is_kept ≡ true))
    → AnswersAs view (of i) takes read
    → Looks (reached way (record { accepts = λ x. is_some (of x); shape = leaf w })) i result
leaf_looks view of takes w [] i read (Ok l) a h = record {
  accepted = accepted_as view (of i) takes read l.is_accepted h a.0;
  form = subst (λ (f : Form). HasForm (leaf w) f) (sym a.1) refl;
  kept = a.2;
}
leaf_looks view of takes w [] i read (Err e) a h = tt
leaf_looks view of takes w (n ∷ ns) i read result a h = tt

pub err_looks : (o : Option Tested) (i : Item) (e : NoMemory) → Looks o i (Err e)
err_looks (Some t) i e = tt
err_looks None i e = tt

-- ---- records

pub same_entries : {P : Type 0} (ms : List (Member P)) → map (λ r. r.entry) (rows_of ms) ≡ entries_in (shapes_of ms)
same_entries [] = refl
same_entries (m ∷ ms) = ap (λ (es : List Entry). m.entry ∷ es) (same_entries ms)

pub record_looks : {A P : Type 0} (t : Fields P) (view : A → P) (takes : Type 0) (way : List ℕ) (i : Item)
    (read : Result A Fault) (held : Result A Refusal) (b : Bool) (rs : Bor (List Row)) (result : Result Look NoMemory)
    → length way ≡ 0 → Reads view takes (read_item t i) read → held ≡ as_nested read → b ≡ t.is_numbered
    → map entry_of rs.now ≡ entries (table_of t)
    → IfOk result (λ l. AcceptedIf held l.is_accepted × (l.form ≡ form.Record b rs) × (l.is_kept ≡ true))
    → Looks (reached way (tested (nested t))) i result
record_looks {A} t view takes [] i read held b rs (Ok l) empty reads is numbered rows a = record {
  accepted = accepted_as view (record_kind t i) takes held l.is_accepted
      (subst (λ (r : Result A Refusal). AnswersAs view (record_kind t i) takes r) (sym is)
      (held_answers t view (read_item t i) read (λ h. h) reads)) a.0;
  form = subst (λ (f : Form). HasForm (shape_of t) f) (sym a.1) (numbered, rows ∙ same_entries t.rows);
  kept = a.2;
}
record_looks t view takes [] i read held b rs (Err e) empty reads is numbered rows a = tt
record_looks t view takes (n ∷ ns) i read held b rs result empty reads is numbered rows a = absurd cc

-- the row as a whole
whole_row : {P : Type 0} (ms : List (Member P)) (n : ℕ) (i : Item) (l : Look)
    → l.is_accepted ≡ accepts_at (rows_of ms) n i
    → IfSome (shape_at ms n) (λ (s : Shape). HasForm s l.form × (l.is_kept ≡ kept_by s i))
    → Looks (option_and_then (reached []) (row_in (shapes_of ms) n)) i (Ok l)
whole_row [] n i l = λ a h. tt
whole_row (m ∷ ms) n i l = elim (m.entry.number == n)
    as (λ c. l.is_accepted ≡ (if c then is_some (m.kind.of i) else accepts_at (rows_of ms) n i)
    → IfSome (if c then Some m.kind.shape else shape_at ms n)
    (λ (s : Shape). HasForm s l.form × (l.is_kept ≡ kept_by s i))
    → Looks (option_and_then (reached [])
    (if c then Some (record { accepts = accepts m.kind; shape = m.kind.shape }) else row_in (shapes_of ms) n)) i (Ok l))
    [ true ↦ λ a h. record { accepted = a; form = h.0; kept = h.1 } | false ↦ whole_row ms n i l ]

put_accepts : {P : Type 0} (t : Fields P) (n : ℕ) (i : Item) (old new : P) (put : Result (Unit {0}) Refusal) (b : Bool)
    → Puts t n i old new put → AcceptedIf put b → b ≡ accepts_at (rows_of t.rows) n i
put_accepts t n i old new (Ok x) b h a = a ∙ sym h.0
put_accepts t n i old new (Err Refused) b h a = a ∙ sym h
put_accepts t n i old new (Err OutOfMemory) b h a = absurd a

pub row_looks : {P : Type 0} (t : Fields P) (n : ℕ) (i : Item) (way : List ℕ) (old new : P)
    (put : Result (Unit {0}) Refusal) (found : Result Look NoMemory) (first : Look) (result : Result Look NoMemory)
    → length way ≡ 0 → found ≡ Ok first → Puts t n i old new put
    → IfSome (shape_at t.rows n) (λ (s : Shape). FoundAs way s i found)
    → IfOk result (λ l. AcceptedIf put l.is_accepted × (l.form ≡ first.form) × (l.is_kept ≡ first.is_kept))
    → Looks (option_and_then (reached way) (row_in (shapes_of t.rows) n)) i result
row_looks t n i [] old new put found first (Ok l) empty is puts told a =
    let there : IfSome (shape_at t.rows n) (λ (s : Shape). HasForm s first.form × (first.is_kept ≡ kept_by s i)) =
    rw is at told in
    let formed : IfSome (shape_at t.rows n) (λ (s : Shape). HasForm s l.form × (first.is_kept ≡ kept_by s i)) =
    subst (λ (f : Form). IfSome (shape_at t.rows n) (λ (s : Shape). HasForm s f × (first.is_kept ≡ kept_by s i)))
    (sym a.1) there in
    let here = subst (λ (b : Bool). IfSome (shape_at t.rows n) (λ (s : Shape). HasForm s l.form × (b ≡ kept_by s i)))
    (sym a.2) formed in
    whole_row t.rows n i l (put_accepts t n i old new put l.is_accepted puts a.0) here
row_looks t n i [] old new put found first (Err e) empty is puts told a = err_looks _ i e
row_looks t n i (k ∷ ns) old new put found first result empty is puts told a = absurd cc

-- a part of the row
part_of_row : {P : Type 0} (ms : List (Member P)) (n k : ℕ) (ns : List ℕ) (i : Item) (r : Result Look NoMemory)
    → IfSome (shape_at ms n) (λ (s : Shape). Looks (option_and_then (reached ns) (part_of k s)) i r)
    → Looks (option_and_then (reached (k ∷ ns)) (row_in (shapes_of ms) n)) i r
part_of_row [] n k ns i r = λ h. tt
part_of_row (m ∷ ms) n k ns i r = elim (m.entry.number == n)
    as (λ c. IfSome (if c then Some m.kind.shape else shape_at ms n)
    (λ (s : Shape). Looks (option_and_then (reached ns) (part_of k s)) i r)
    → Looks (option_and_then (reached (k ∷ ns))
    (if c then Some (record { accepts = accepts m.kind; shape = m.kind.shape }) else row_in (shapes_of ms) n)) i r)
    [ true ↦ λ h. h | false ↦ part_of_row ms n k ns i r ]

pub row_part_looks : {P : Type 0} (ms : List (Member P)) (n : ℕ) (way : List ℕ) (k : ℕ) (ns : List ℕ) (i : Item)
    (r : Result Look NoMemory) → way ≡ k ∷ ns → IfSome (shape_at ms n) (λ (s : Shape). FoundAs way s i r)
    → Looks (option_and_then (reached way) (row_in (shapes_of ms) n)) i r
row_part_looks ms n way k ns i r at h =
    subst (λ (w : List ℕ). Looks (option_and_then (reached w) (row_in (shapes_of ms) n)) i r) (sym at)
    (part_of_row ms n k ns i r
    (subst (λ (w : List ℕ). IfSome (shape_at ms n) (λ (s : Shape). FoundAs w s i r)) at h))
