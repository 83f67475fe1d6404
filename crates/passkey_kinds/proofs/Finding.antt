-- Finding a member's value at a cursor.
use Rattle.passkey_kinds.proofs.Steps.{arith, ℕ, ◌≡◌, ◌∙◌, ap, subst, refl, sym, Bool, true, false, List, Option, Some, None, Item, Members, IsEncodedAt, PairsAreEncodedAt, max_depth, Naming, Entry, entries, names, split, stands_back, key_names, named_as}
use Rattle.std.specs.Prelude.{IfSome, ◌∷◌}
use Rattle.std.proofs.Common.{zero-add}
use Rattle.passkey_cbor.specs.EncodedAt.{WalksOn, Passes}
use Rattle.passkey_cbor.specs.Inside.{Within}
use Rattle.passkey_cbor.specs.Skipped.{PassesLeadingItem}
use Rattle.passkey_cbor.specs.CursorState.{CursorState, ahead}
use Rattle.passkey_cbor.specs.LeadingItem.{IsLeadingItem}
use Rattle.passkey_cbor.specs.Lent.{Region, LendsFrom}
use Rattle.passkey_cbor.proofs.items.EncodedFrom.{front_stands}
use Rattle.passkey_kinds.proofs.Common.{only_one, byte_string, members_in}
use Rattle.passkey_kinds.specs.LentItem.{ValueLies, IfRow}
use Rattle.passkey_kinds.specs.declared.rows.Named.TheVariants.{Row, Unknown}
use Rattle.passkey_kinds.specs.Lending.{is_row, value_if, value_among, string_in, string_of_row, LendsWanted, LendsRow}
use Rattle.std.specs.Option.{option_and_then}
use Rattle.passkey_kinds.specs.Record.{Table, named, naming_of}
use Rattle.passkey_kinds.specs.RecordReading.{ReadsKey}
use Rattle.passkey_kinds.specs.declared.rows.Named.{Named}

-- The members that are left have the wanted value, if any member has it, and have it where it is.
pub record StillAhead (table : Table) (n : ℕ) (ms : Members) (to : ℕ) (left : Option ℕ) (old now : CursorState) : Type 0
  where
    pub rest : Members
    pub ahead : PairsAreEncodedAt left rest now.bytes now.place to
    pub same : value_among table n ms ≡ value_among table n rest
    pub lies : (from end : ℕ) → ValueLies table n rest now.bytes now.place from end
        → ValueLies table n ms old.bytes old.place from end

-- The next of them, after its key was decoded.
pub record NextAhead (table : Table) (n : ℕ) (ms : Members) (to : ℕ) (left : Option ℕ) (found : Option Named)
    (old now : CursorState) : Type 0 where
  pub value : Item
  pub others : Members
  pub middle : ℕ
  pub same : value_among table n ms ≡ value_if n (naming_of found) value (value_among table n others)
  pub there : IfSome found (λ _. IsEncodedAt value now.bytes now.place middle)
  pub after : PairsAreEncodedAt left others now.bytes middle to
  pub lies : IfSome found (λ _. (from end : ℕ) → IfRow n (naming_of found) ((from ≡ now.place) × (end ≡ middle))
      (ValueLies table n others now.bytes middle from end) → ValueLies table n ms old.bytes old.place from end)

value_there : (found : Option Named) (value : Item) (k : CursorState) {bytes : List ℕ} {place middle : ℕ} → k.bytes ≡ bytes
    → IfSome found (λ _. k.place ≡ place) → IsEncodedAt value bytes place middle
    → IfSome found (λ _. IsEncodedAt value k.bytes k.place middle)
value_there (Some key) value k same at l = stands_back value k same at l
value_there None value k same at l = at

lies_next : (table : Table) (n : ℕ) (found : Option Named) (first : Item × Item) (others : Members) (k : CursorState)
    {bytes : List ℕ} {at middle next : ℕ} {Q : ℕ → ℕ → Type 0} → named table first.0 ≡ naming_of found
    → k.bytes ≡ bytes → IfSome found (λ _. k.place ≡ middle) → IsEncodedAt first.0 bytes at middle
    → IsEncodedAt first.1 bytes middle next
    → ((from end : ℕ) → ValueLies table n (first ∷ others) bytes at from end → Q from end)
    → IfSome found (λ _. (from end : ℕ) → IfRow n (naming_of found) ((from ≡ k.place) × (end ≡ next))
    (ValueLies table n others k.bytes next from end) → Q from end)
lies_next table n (Some key) first others k {middle = middle} {next} naming same at f s on = λ from end h.
    on from end (middle, next, (f, s, rw (naming, sym at, sym same) h))
lies_next table n None first others k naming same at f s on = tt

-- the members that were left before the cursor looked whether there are more
ahead_again : (table : Table) (n : ℕ) (a b : CursorState) (from end : ℕ) {rest ms : Members} → rest ≡ ms
    → b.bytes ≡ a.bytes → b.place ≡ a.place → ValueLies table n ms b.bytes b.place from end
    → ValueLies table n rest a.bytes a.place from end
ahead_again table n a b from end whole same stays h = rw (whole, sym same, sym stays) h

pub next_ahead : (table : Table) (n : ℕ) (ms : Members) (to : ℕ) {before after : Option ℕ} {a b k : CursorState}
    {found : Option Named} {old : CursorState} {is_numbered : Bool} {rows : List Entry} → StillAhead table n ms to before old a
    → WalksOn before after a b true → is_numbered ≡ table.is_numbered → rows ≡ entries table
    → ((key : Item) (end : ℕ) → IsEncodedAt key b.bytes b.place end
    → ReadsKey (names is_numbered rows key) end b k found) → k.bytes ≡ b.bytes
    → NextAhead table n ms to after found old k
next_ahead table n ms to {a = a} {b} {k} {found} {old} e walks numbered rows reads same =
    let m = walks.pairs e.rest to e.ahead in
    let s = split (Within max_depth m.first.0) (Within max_depth m.first.1) b.bytes b.place m.middle m.here in
    let key = reads m.first.0 s.middle s.front in
    let naming : named table m.first.0 ≡ naming_of found = key_names table m.first.0 numbered rows key.is in
    record {
      value = m.first.1;
      others = m.others;
      middle = m.middle;
      same = e.same ∙ ap (value_among table n) m.whole
          ∙ ap (λ (x : Naming). value_if n x m.first.1 (value_among table n m.others)) naming;
      there = value_there found m.first.1 k same key.ends s.back;
      after = rw same m.after;
      lies = lies_next table n found m.first m.others k naming same key.ends s.front s.back
          (λ from end h. e.lies from end (ahead_again table n a b from end m.whole walks.looks.bytes (walks.looks.stays refl) h));
    }

pub value_here : (n : ℕ) (key : Named) (i : Item) (others : Option Item) → is_row n (named_as key) ≡ true
    → value_if n (named_as key) i others ≡ Some i
value_here n key i others e = grind arith

pub value_after : (n : ℕ) (key : Named) (i : Item) (others : Option Item) → is_row n (named_as key) ≡ false
    → value_if n (named_as key) i others ≡ others
value_after n key i others e = grind arith

-- the first member's value is wanted, or one after it
pub row_here : (n : ℕ) (key : Named) (Here After : Type 0) → is_row n (named_as key) ≡ true → Here
    → IfRow n (named_as key) Here After
row_here n (Row k) Here After is h = rw is h
row_here n Unknown Here After is h = absurd cc

row_after : (n : ℕ) (key : Named) (Here After : Type 0) → is_row n (named_as key) ≡ false → After
    → IfRow n (named_as key) Here After
row_after n (Row k) Here After is h = rw is h
row_after n Unknown Here After is h = h

pub passed : {table : Table} {n : ℕ} {ms : Members} {to : ℕ} {left : Option ℕ} {key : Named}
    {old k d : CursorState} → is_row n (named_as key) ≡ false → (w : NextAhead table n ms to left (Some key) old k)
    → Passes w.middle k d true → StillAhead table n ms to left old d
passed {n = n} {key = key} other w p = record {
  rest = w.others;
  ahead = rw (p.bytes, p.place) w.after;
  same = w.same ∙ value_after n key w.value _ other;
  lies = λ from end h. w.lies from end (row_after n key _ _ other (rw (sym p.bytes, sym p.place) h));
}

-- ---- the byte string that the value is

pub string_is : (table : Table) (n : ℕ) (i : Item) (ms : Members) → members_in i ≡ Some ms
    → string_of_row table n i ≡ option_and_then string_in (value_among table n ms)
string_is table n i ms e = grind arith

pub string_is_not : (table : Table) (n : ℕ) (i : Item) → members_in i ≡ None → string_of_row table n i ≡ None
string_is_not table n i e = grind arith

no_string : (i : Item) → ((s : List ℕ) → i ≡ byte_string s → ⊥) → string_in i ≡ None
no_string (byte_string s) h = absurd (h s refl)
no_string i h = refl

-- what the cursor lends of the value is wanted
pub lends_wanted : (i : Item) (to : ℕ) (old new : CursorState) (found : Option Region) → LendsFrom false i to old new found
    → LendsWanted (string_in i) found
lends_wanted i to old new (Some r) h = (h.0, (ap string_in h.1.0, h.1.1.tells))
lends_wanted i to old new None h = no_string i h.0

-- ---- the message at the beginning of the bytes

stands_first : (i : Item) (bytes : List ℕ) (len : ℕ) → IsLeadingItem bytes i len → IsEncodedAt i bytes 0 len
stands_first i bytes len f = subst (IsEncodedAt i bytes 0) (zero-add len) (front_stands i bytes 0 len f)

pub lends_row : (table : Table) (n : ℕ) (bytes : List ℕ) (i : Item) (len : ℕ) (found : Option Region)
    → IsLeadingItem bytes i len → LendsWanted (string_of_row table n i) found → LendsRow table n bytes found
lends_row table n bytes i len (Some r) front h = record { item = i; len = len; front = front; holds = h }
lends_row table n bytes i len None front h = λ j other leads.
    ap (string_of_row table n) (only_one i j bytes 0 len other (stands_first i bytes len front) leads).0 ∙ h

-- the item that the cursor passed from the start, and went back over
module _ (bytes : List ℕ) {old s a : CursorState} (start : old ≡ record { bytes = bytes; place = 0; heads = 0; nodes = 0 })
    (p : PassesLeadingItem old s) (back : a ≡ record s { place = 0 }) where
  pub leads : IsLeadingItem bytes p.item p.len
  leads = subst (λ (w : CursorState). IsLeadingItem (ahead w) p.item p.len) start p.front

  pub encoded_there : IsEncodedAt p.item a.bytes a.place p.len
  encoded_there = stands_back p.item a
      (ap (λ (w : CursorState). w.bytes) back ∙ p.bytes ∙ ap (λ (w : CursorState). w.bytes) start)
      (ap (λ (w : CursorState). w.place) back) (stands_first p.item bytes p.len leads)
