-- Decoding messages from bytes, and laws about messages and records.
use Rattle.passkey_kinds.specs.Base.{IsWritable, written, array, items_of, heads_of}
use Rattle.std.specs.Prelude.{ℕ, List, ◌++◌, codes, ◌≡◌, ◌+◌, ◌-◌, ◌*◌, ◌≤◌, length, take, Result, Ok, Err, OnErr, OnOk, ◌≢◌, [], ◌∷◌, Bool, true, ◌↔◌, Option, Some, None}
use Rattle.passkey_cbor.specs.Canonical.{IsCanonical}
use Rattle.passkey_cbor.specs.HeadsDecoded.{heads_decoded}
use Rattle.passkey_cbor.specs.Item.{Item, Pairs, map}
use Rattle.passkey_cbor.specs.LeadingItem.{IsLeadingItem, HasNoLeadingItem}
use Rattle.passkey_cbor.specs.Reads.{HasGrowingLeadingItem}
use Rattle.passkey_cbor.specs.CursorState.{CursorState, ahead, raised, MovesForward}
use Rattle.passkey_kinds.specs.Kind.{CountsLeast, Kind, Least, accepted_from, least_and}
use Rattle.passkey_kinds.specs.Record.{MayGrowAt, Fields, read_item, table_of, rows_of, put_at, read_members, Table, Naming, row, unknown, wrong, named, Members, accepts_at}
use Rattle.passkey_kinds.specs.RecordReading.{kept_in_map, least_in_map}
use Rattle.passkey_kinds.specs.Tree.{map_tree}
use Rattle.passkey_kinds.specs.declared.fault.Fault.{Fault}
use Rattle.passkey_kinds.specs.declared.fault.Fault.TheVariants.{OutOfMemory, DecodeFailed, NotAMap}
use Rattle.std.specs.Fmt.{decimal}
use Rattle.std.specs.List.{All, filter_map}
use Rattle.passkey_kinds.specs.declared.fault.Fault.TheVariants as fault

-- ---- the names of the faults

abbrev pub fault_name : Fault → List ℕ
fault_name fault.DecodeFailed = codes "DecodeFailed"
fault_name fault.OutOfMemory = codes "OutOfMemory"
fault_name fault.NotAMap = codes "NotAMap"
fault_name fault.BadKey = codes "BadKey"
fault_name (fault.Repeated n) = codes "Repeated(" ++ decimal n ++ codes ")"
fault_name (fault.Refused n) = codes "Refused(" ++ decimal n ++ codes ")"
fault_name (fault.Missing n) = codes "Missing(" ++ decimal n ++ codes ")"

-- ---- decoding a message from bytes

-- The bytes have a leading data item, and `Holds` is true of it and its length.
pub record Begins (bytes : List ℕ) (Holds : Item → ℕ → Type 0) : Type 0 where
  pub item : Item
  pub len : ℕ
  pub front : IsLeadingItem bytes item len
  pub holds : Holds item len

-- The result of decoding a message from bytes: the message and the length of its data item; the
-- item's first fault; `DecodeFailed`, if the bytes have no leading data item; or `OutOfMemory`,
-- only if the leading data item takes memory.
abbrev pub ReadsMessage : {A M : Type 0} → (A → M) → (Item → Result M Fault) → List ℕ → Result (A × ℕ) Fault
    → Type 0
ReadsMessage view read bytes (Ok r) = Begins bytes (λ i len. (len ≡ r.1) × (read i ≡ Ok (view r.0)))
ReadsMessage view read bytes (Err fault.DecodeFailed) = HasNoLeadingItem bytes
ReadsMessage view read bytes (Err fault.OutOfMemory) = HasGrowingLeadingItem bytes
ReadsMessage view read bytes (Err e) = Begins bytes (λ i len. read i ≡ Err e)

-- Memory may run out only for a member whose map key names a row that takes memory and whose value
-- takes memory.
abbrev pub GrowsMessage : {P : Type 0} → Fields P → List ℕ → Type 0
GrowsMessage t bytes = Begins bytes (λ i len. MayGrowAt (table_of t) i)

-- ---- at a cursor

-- the result, with the number of bytes that the cursor moved over
abbrev pub with_length : {A : Type 0} → CursorState → CursorState → Result A Fault → Result (A × ℕ) Fault
with_length old new (Ok message) = Ok (message, new.place - old.place)
with_length old new (Err e) = Err e

-- what is counted at least for a message: all heads of its item, and what the table keeps
abbrev pub least_here : {P : Type 0} → Fields P → Item → List ℕ → Least
least_here t i bytes = least_and (record { heads = heads_of bytes; nodes = 0 }) (least_in_map t i)

-- Decoding a message at a cursor. The result is that of decoding the bytes ahead. The cursor moves
-- past the message, or stays if there is an error. If the bytes ahead have a leading data item, each
-- of its heads is counted at least once, at most `cost` heads are counted for each of its bytes, and
-- at most the data items that the table keeps are made as values. Otherwise each head that is decoded
-- up to the fault is counted, at most one for each byte, and one more, and no values are made. At
-- least one head is counted. The counts include what was spent, whatever the result. After a success
-- the data items that the message keeps are counted, and those of authenticator data with their heads,
-- which are counted beside the item's.
pub record ReadsHere {A P : Type 0} (view : A → P) (t : Fields P) (cost : ℕ) (old new : CursorState)
    (result : Result A Fault) : Type 0 where
  pub reads : ReadsMessage view (read_item t) (ahead old) (with_length old new result)
  pub grows : result ≡ Err fault.OutOfMemory → GrowsMessage t (ahead old)
  pub stays : OnErr result (new.place ≡ old.place)
  pub moves : MovesForward old new
  pub least : raised old.heads 1 ≤ new.heads
  pub all_heads : (i : Item) (len : ℕ) → IsLeadingItem (ahead old) i len
      → raised old.heads (heads_of (take len (ahead old))) ≤ new.heads
  pub heads : (i : Item) (len : ℕ) → IsLeadingItem (ahead old) i len → new.heads ≤ old.heads + cost * len
  pub nodes : (i : Item) (len : ℕ) → IsLeadingItem (ahead old) i len → new.nodes ≤ old.nodes + kept_in_map t i
  pub counts : OnOk result ((i : Item) (len : ℕ) → IsLeadingItem (ahead old) i len
      → CountsLeast (least_here t i (take len (ahead old))) old new)
  pub decoded : HasNoLeadingItem (ahead old) → new.heads ≡ raised old.heads (heads_decoded (ahead old))
  pub few_heads : HasNoLeadingItem (ahead old) → new.heads ≤ old.heads + length (ahead old) + 1
  pub no_nodes : HasNoLeadingItem (ahead old) → new.nodes ≡ old.nodes

-- ---- laws about messages: an encoded message can be decoded again, decoded messages are coherent, and
-- some bytes decode alike

-- The encoding of a coherent message, whatever bytes follow, decodes to the message's normal form.
abbrev pub WrittenIsReadBack : {P : Type 0} → (Item → Result P Fault) → (P → Item) → (P → Type 0) → (P → Bool)
    → (P → P) → Type 0
WrittenIsReadBack {P} read tree Fits is_coherent normal = (p : P) (rest : List ℕ) → Fits p → IsWritable (tree p)
    → is_coherent p ≡ true → IsLeadingItem (written (tree p) ++ rest) (tree p) (length (written (tree p)))
    × (read (tree p) ≡ Ok (normal p))

-- Decoded messages are coherent.
abbrev pub ReadIsCoherent : {P : Type 0} → (Item → Result P Fault) → (P → Bool) → Type 0
ReadIsCoherent {P} read is_coherent = (bytes : List ℕ) (p : P) → Begins bytes (λ i len. read i ≡ Ok p)
    → is_coherent p ≡ true

-- ---- bytes that decode alike

-- the same value, with this length in the second result, or the same fault
abbrev pub SameButForLength : {A M : Type 0} → (A → M) → ℕ → Result (A × ℕ) Fault → Result (A × ℕ) Fault → Type 0
SameButForLength view len (Ok r) (Ok s) = (view r.0 ≡ view s.0) × (s.1 ≡ len)
SameButForLength view len (Ok r) (Err f) = ⊥
SameButForLength view len (Err e) (Ok s) = ⊥
SameButForLength view len (Err e) (Err f) = e ≡ f

-- If decoding `bytes` may return the first result, then decoding `others` may return the second
-- result exactly if it is the same but for its length, which is `len`. `OutOfMemory` is left out:
-- `ReadsMessage` allows it for any item that takes memory (`GrowsMessage` says more).
abbrev pub AnswersCarryOver : {A M : Type 0} → (A → M) → (Item → Result M Fault) → List ℕ → List ℕ → ℕ → Type 0
AnswersCarryOver {A} view read bytes others len =
    (first second : Result (A × ℕ) Fault) →
    first ≢ Err OutOfMemory →
    second ≢ Err OutOfMemory →
    ReadsMessage view read bytes first →
    (ReadsMessage view read others second ↔ SameButForLength view len first second)

-- Any bytes whose leading data items are these two, however encoded and whatever follows, decode to
-- results that differ only in the length.
abbrev pub DifferInLength : {A M : Type 0} → (A → M) → (Item → Result M Fault) → Item → Item → Type 0
DifferInLength view read x y =
    (bytes others : List ℕ) (n m : ℕ) →
    IsLeadingItem bytes x n →
    IsLeadingItem others y m →
    AnswersCarryOver view read bytes others m × AnswersCarryOver view read others bytes n

-- Items that decode to the same result differ only in the length.
abbrev pub AlikeDifferInLength : {A M : Type 0} → (A → M) → (Item → Result M Fault) → Type 0
AlikeDifferInLength view read = (x y : Item) → read x ≡ read y → DifferInLength view read x y

-- ---- canonical encodings

-- each item's encoding is canonical
abbrev pub AllCanonical : List Item → Type 0
AllCanonical [] = Unit {0}
AllCanonical (i ∷ is) = IsCanonical (written i) × AllCanonical is

-- what an optional value keeps undecoded
abbrev pub kept_if_some : {A : Type 0} → (A → List Item) → Option A → List Item
kept_if_some kept None = []
kept_if_some kept (Some x) = kept x

-- The encoding of a coherent message is canonical, if the encodings of the values that it keeps are.
abbrev pub WrittenIsCanonical : {P : Type 0} → (P → Item) → (P → Bool) → (P → List Item) → Type 0
WrittenIsCanonical {P} tree is_coherent kept =
    (p : P) → IsWritable (tree p) → is_coherent p ≡ true → AllCanonical (kept p) → IsCanonical (written (tree p))

-- ---- laws about records: which members and elements change nothing, which decode alike, and which
-- faults no item has

-- An element that the kind refuses changes nothing, wherever it is in a tolerant list.
abbrev pub RefusedElementIsPassedOver : Type 0 → Type 0
RefusedElementIsPassedOver M = (kind : Kind M) (before following : List Item) (x : Item) → kind x ≡ None
    → accepted_from kind (array (items_of (before ++ x ∷ following)))
    ≡ accepted_from kind (array (items_of (before ++ following)))

-- A member under a key that the table doesn't know changes nothing, wherever it is.
abbrev pub UnknownMemberIsPassedOver : {P : Type 0} → Fields P → Type 0
UnknownMemberIsPassedOver t = (before following : Members) (key value : Item) → named (table_of t) key ≡ unknown
    → read_members t (before ++ (key, value) ∷ following) ≡ read_members t (before ++ following)

-- ---- members that decode alike

abbrev pub known_member : Naming → Item → Option (ℕ × Item)
known_member (row n) i = Some (n, i)
known_member _ i = None

-- the rows that the keys name, in the order of the members, each with the member's value
abbrev pub known : Table → Members → List (ℕ × Item)
known table ms = filter_map (λ (m : Item × Item). known_member (named table m.0) m.1) ms

abbrev pub HasNoWrongKey : Table → Members → Type 0
HasNoWrongKey table ms = All (λ (m : Item × Item). named table m.0 ≢ wrong) ms

-- Row n decodes two items alike: it accepts both or neither, and puts the same value.
pub record AnswersAlike {P : Type 0} (t : Fields P) (n : ℕ) (i j : Item) : Type 0 where
  pub accepts : accepts_at (rows_of t.rows) n i ≡ accepts_at (rows_of t.rows) n j
  pub puts : (r : P) → put_at t.rows n i r ≡ put_at t.rows n j r

-- the same rows in the same order, with items that they decode alike
abbrev pub SameAnswers : {P : Type 0} → Fields P → List (ℕ × Item) → List (ℕ × Item) → Type 0
SameAnswers t [] [] = Unit {0}
SameAnswers t [] (y ∷ ys) = ⊥
SameAnswers t (x ∷ xs) [] = ⊥
SameAnswers t (x ∷ xs) (y ∷ ys) = (x.0 ≡ y.0) × AnswersAlike t x.0 x.1 y.1 × SameAnswers t xs ys

-- Members without a wrong key decode to the same result if they name the same rows in the same
-- order, with items that these rows decode alike. It doesn't matter how a key is encoded, or which
-- unknown members are between them.
abbrev pub SameAnswersReadAlike : {P : Type 0} → Fields P → Type 0
SameAnswersReadAlike t = (ms ns : Members) → HasNoWrongKey (table_of t) ms → HasNoWrongKey (table_of t) ns
    → SameAnswers t (known (table_of t) ms) (known (table_of t) ns) → read_members t ms ≡ read_members t ns

-- A map with one more member, under a key that the table doesn't know, differs only in the length
-- from the map without it, wherever the member is.
abbrev pub PassesOverUnknown : {A P : Type 0} → (A → P) → Fields P → Type 0
PassesOverUnknown view t =
    (before following : Members) (key value : Item) →
    named (table_of t) key ≡ unknown →
    DifferInLength view (read_item t) (map_tree (before ++ following)) (map_tree (before ++ (key, value) ∷ following))

-- ---- faults that no item has

-- No item has the fault `DecodeFailed` or `OutOfMemory`.
abbrev pub KnowsItems : {M : Type 0} → (Item → Result M Fault) → Type 0
KnowsItems read = (i : Item) → (read i ≢ Err DecodeFailed) × (read i ≢ Err OutOfMemory)

-- No map has the fault `NotAMap`, whatever its members.
abbrev pub KnowsMaps : {M : Type 0} → (Item → Result M Fault) → Type 0
KnowsMaps read = (ps : Pairs) → read (map ps) ≢ Err NotAMap
