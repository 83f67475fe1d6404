-- Lending a member's value as it is encoded.
use Rattle.passkey_kinds.proofs.Steps.{ℕ, ◌≡◌, ◌∙◌, ap, sym, subst, refl, Bool, true, false, List, [], ◌++◌, length, drop, Option, Some, None, Item, Members, IsEncodedAt, PairWithin, max_depth, ◌==◌, head_map}
use Rattle.std.specs.Prelude.{◌+◌, ◌∷◌}
use Rattle.std.specs.Option.{option_and_then}
use Rattle.std.proofs.Common.{zero-add}
use Rattle.passkey_cbor.specs.EncodedAt.{Passes}
use Rattle.passkey_cbor.specs.Found.{FindsHead, PassesHead}
use Rattle.passkey_cbor.specs.Skipped.{PassesLeadingItem}
use Rattle.passkey_cbor.specs.CursorState.{CursorState}
use Rattle.passkey_cbor.specs.declared.head.Head.{Head}
use Rattle.passkey_cbor.specs.declared.head.Head.TheVariants as head
use Rattle.passkey_kinds.proofs.Common.{only_one, members_in}
use Rattle.passkey_kinds.proofs.Finding.{leads}
use Rattle.passkey_cbor.proofs.items.EncodedFrom.{front_stands}
use Rattle.passkey_kinds.specs.Lending.{value_among, FindsValue}
use Rattle.passkey_kinds.specs.LentItem.{value_in, Chosen, IfRow, ValueLies, ValueEnds, ValueAt, Entered, EntersValue, LendsMember}
use Rattle.passkey_kinds.specs.Reader.{OpensAt}
use Rattle.passkey_kinds.specs.Record.{Table, Naming, row, unknown, wrong, named}

-- ---- an item is encoded between the two offsets

module _ {bytes : List ℕ} {from to middle next : ℕ} (i : Item) {After : Type 0} (s : IsEncodedAt i bytes middle next)
    (later : After → (j : Item) × IsEncodedAt j bytes from to) where
  chosen : (b : Bool) → Chosen b ((from ≡ middle) × (to ≡ next)) After → (j : Item) × IsEncodedAt j bytes from to
  chosen true h = (i, rw (h.0, h.1) s)
  chosen false h = later h

  in_row : (n : ℕ) (naming : Naming) → IfRow n naming ((from ≡ middle) × (to ≡ next)) After
      → (j : Item) × IsEncodedAt j bytes from to
  in_row n wrong h = absurd h
  in_row n (row k) h = chosen (k == n) h
  in_row n unknown h = later h

pub lies_value : (table : Table) (n : ℕ) (ms : Members) (bytes : List ℕ) (at from to : ℕ)
    → ValueLies table n ms bytes at from to → (j : Item) × IsEncodedAt j bytes from to
lies_value table n [] bytes at from to h = absurd h
lies_value table n (m ∷ ms) bytes at from to h =
    in_row m.1 h.2.1 (λ l. lies_value table n ms bytes h.1 from to l) n (named table m.0) h.2.2

-- ---- a map at a cursor

module _ (table : Table) (n : ℕ) (i : Item) (to : ℕ) {left : Option ℕ} (a b d : CursorState) (p : PassesHead a b (head.Map left))
    (o : OpensAt members_in (PairWithin max_depth) i to b (Some left)) (same : d.bytes ≡ b.bytes) where
  pub enters : (found : Bool) → (found ≡ true → ValueEnds table n o.0 b d) → FindsValue (value_among table n o.0) d found
      → EntersValue table n i a d found
  enters true ends finds =
      let e = ends refl in
      record {
        members = o.0;
        is_map = o.1.0;
        left = left;
        opening = p.text;
        opens = p.encoded;
        begins =
            subst (λ (k : ℕ). drop a.place a.bytes ≡ p.text ++ drop k a.bytes) p.place
            (subst (λ (bs : List ℕ). drop a.place a.bytes ≡ p.text ++ drop b.place bs) p.bytes p.parts);
        to = e.0;
        lies =
            subst (λ (k : ℕ). ValueLies table n o.0 a.bytes k d.place e.0) p.place
            (subst (λ (bs : List ℕ). ValueLies table n o.0 bs b.place d.place e.0) p.bytes e.1);
        same = same ∙ p.bytes;
      }
  enters false ends finds = ap (option_and_then (value_among table n)) o.1.0 ∙ finds

-- the head that the cursor passed is that of a map
pub map_passed : (a b : CursorState) (found : Option Head) (left : Option ℕ) → option_and_then head_map found ≡ Some left
    → FindsHead a b found → PassesHead a b (head.Map left)
map_passed a b None left e p = absurd cc
map_passed a b (Some (head.Map n)) left e p =
    let same : n ≡ left = cc in subst (λ (k : Option ℕ). PassesHead a b (head.Map k)) same p
map_passed a b (Some h) left e p = absurd cc

pub enters_none : (table : Table) (n : ℕ) (i : Item) → members_in i ≡ None → value_in table n i ≡ None
enters_none table n i e = ap (option_and_then (value_among table n)) e

-- ---- the message at the beginning of the bytes

at_start : (opening : List ℕ) {bytes there : List ℕ} {place : ℕ} → there ≡ bytes → place ≡ 0
    → drop place there ≡ opening ++ drop (place + length opening) there
    → bytes ≡ opening ++ drop (length opening) bytes
at_start opening {bytes} {there} {place} same zero e =
    let at_zero : drop 0 there ≡ opening ++ drop (0 + length opening) there =
    subst (λ (k : ℕ). drop k there ≡ opening ++ drop (k + length opening) there) zero e in
    let moved : there ≡ opening ++ drop (length opening) there =
    subst (λ (k : ℕ). there ≡ opening ++ drop k there) (zero-add (length opening)) at_zero in
    subst (λ (bs : List ℕ). bs ≡ opening ++ drop (length opening) bs) same moved

module _ (table : Table) (n : ℕ) (bytes : List ℕ) {old s a : CursorState}
    (start : old ≡ record { bytes = bytes; place = 0; heads = 0; nodes = 0 }) (p : PassesLeadingItem old s)
    (back : a ≡ record s { place = 0 }) where
  same_bytes : a.bytes ≡ bytes
  same_bytes = ap (λ (w : CursorState). w.bytes) back ∙ p.bytes ∙ ap (λ (w : CursorState). w.bytes) start

  at_zero : a.place ≡ 0
  at_zero = ap (λ (w : CursorState). w.place) back

  pub value_at : {b : CursorState} → (e : Entered table n p.item a b) → ValueAt table n bytes b.place e.to
  value_at {b} e = record {
    item = p.item;
    len = p.len;
    front = leads bytes start p back;
    members = e.members;
    is_map = e.is_map;
    left = e.left;
    opening = e.opening;
    opens = e.opens;
    begins = at_start e.opening same_bytes at_zero e.begins;
    lies =
        subst (λ (bs : List ℕ). ValueLies table n e.members bs (length e.opening) b.place e.to) same_bytes
        (subst (λ (k : ℕ). ValueLies table n e.members a.bytes k b.place e.to) (zero-add (length e.opening))
        (subst (λ (k : ℕ). ValueLies table n e.members a.bytes (k + length e.opening) b.place e.to) at_zero e.lies));
  }

  pub lends_none : value_in table n p.item ≡ None → LendsMember table n bytes None
  lends_none none = λ j len leading.
      ap (value_in table n) (only_one p.item j bytes 0 p.len len
      (subst (IsEncodedAt p.item bytes 0) (zero-add p.len) (front_stands p.item bytes 0 p.len (leads bytes start p back)))
      leading).0 ∙ none

-- the value is there to be passed
pub passes_value : (table : Table) (n : ℕ) {i : Item} {a b d : CursorState} {found : Bool} (e : Entered table n i a b)
    → ((j : Item) (to : ℕ) → IsEncodedAt j b.bytes b.place to → Passes to b d found) → Passes e.to b d found
passes_value table n {a = a} {b} e passes =
    let v = lies_value table n e.members a.bytes _ b.place e.to e.lies in
    passes v.0 e.to (subst (λ (bs : List ℕ). IsEncodedAt v.0 bs b.place e.to) (sym e.same) v.1)
