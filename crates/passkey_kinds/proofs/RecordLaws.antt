-- Laws of records and messages.
use Rattle.passkey_kinds.proofs.Common.{front_stands, raised, heads_of, only_one, IsEncodedAt, Grows, Item, no_pairs, pair, members, AtMostOneLeadingItem, IsLeadingItem, PassesLeadingItem, CursorState, ahead, MovesForward, members-pairs_of, ReadsMessage, Begins, GrowsMessage, ReadsHere, AlikeDifferInLength, SameButForLength, AnswersCarryOver, KnowsItems, known, HasNoWrongKey, AnswersAlike, SameAnswers, PassesOverUnknown, KnowsMaps, Onward, Reads, MayGrowAt, Fields, table_of, one_more, Progress, result_and_then, read_from, read_members, read_item, Table, named, Members, Naming, row, unknown, wrong, record_cost, DecodesRecord, Fault, ◌≡◌, ◌∙◌, ◌+◌, ℕ, suc, arith, List, [], ◌∷◌, ◌++◌, length, refl, sym, ap, rules, ◌≤◌, Result, ◌*◌, subst, take, Ok, Err, ◌≢◌, IfErr, All-head, All-tail}
use Rattle.passkey_kinds.proofs.Counting.{least_then}
use Rattle.passkey_kinds.specs.Kind.{CountsLeast, Least}
use Rattle.passkey_kinds.specs.Message.{least_here}
use Rattle.passkey_kinds.specs.RecordReading.{least_in_map}
use Rattle.passkey_kinds.specs.declared.fault.Fault.TheVariants as fault
use Rattle.passkey_cbor.specs.Item as item

-- ---- bytes whose leading data items decode alike: the results differ only in the length

-- the result of decoding the leading data item, with its length
abbrev HoldsString : {A M : Type 0} → (A → M) → Result M Fault → ℕ → Result (A × ℕ) Fault → Type 0
HoldsString view wanted len (Ok r) = (r.1 ≡ len) × (wanted ≡ Ok (view r.0))
HoldsString view wanted len (Err e) = wanted ≡ Err e

-- ---- if there is a leading data item, any result but `OutOfMemory` is the result of decoding it

holds_at : AtMostOneLeadingItem → (bytes : List ℕ) (x : Item) (len : ℕ) (Holds : Item → ℕ → Type 0)
    → IsLeadingItem bytes x len → Begins bytes Holds → Holds x len
holds_at law bytes x len Holds front begun = grind arith

tells : {A M : Type 0} → AtMostOneLeadingItem → (view : A → M) (read : Item → Result M Fault) (bytes : List ℕ)
    (x : Item) (len : ℕ) → IsLeadingItem bytes x len → (r : Result (A × ℕ) Fault) → r ≢ Err fault.OutOfMemory
    → ReadsMessage view read bytes r → HoldsString view (read x) len r
tells law view read bytes x len front r some h = grind (arith, holds_at)

may_tell : {A M : Type 0} (view : A → M) (read : Item → Result M Fault) → KnowsItems read
    → (bytes : List ℕ) (x : Item) (len : ℕ) → IsLeadingItem bytes x len → (r : Result (A × ℕ) Fault)
    → r ≢ Err fault.OutOfMemory → HoldsString view (read x) len r → ReadsMessage view read bytes r
may_tell view read knows bytes x len front r some told = let known = knows x in grind (arith, known)

-- ---- two results of decoding that are the same but for the length

same_told : {A M : Type 0} (view : A → M) (one other : Result M Fault) → one ≡ other → (n m : ℕ)
    (r s : Result (A × ℕ) Fault) → HoldsString view one n r → HoldsString view other m s → SameButForLength view m r s
same_told view one other same n m r s t u = grind arith

told_same : {A M : Type 0} (view : A → M) (one other : Result M Fault) → one ≡ other → (n m : ℕ)
    (r s : Result (A × ℕ) Fault) → HoldsString view one n r → SameButForLength view m r s → HoldsString view other m s
told_same view one other same n m r s t u = grind arith

carries_over : {A M : Type 0} → AtMostOneLeadingItem → (view : A → M) (read : Item → Result M Fault)
    → KnowsItems read → (x y : Item) → read x ≡ read y → (bytes others : List ℕ) (n m : ℕ) → IsLeadingItem bytes x n
    → IsLeadingItem others y m → AnswersCarryOver view read bytes others m
carries_over law view read knows x y same bytes others n m front other r s some some_too h = grind (arith, same_told, may_tell, told_same)

pub alike : {A M : Type 0} → AtMostOneLeadingItem → (view : A → M) (read : Item → Result M Fault) → KnowsItems read
    → AlikeDifferInLength view read
alike law view read knows x y same bytes others n m front other = grind (arith, carries_over)

-- ---- laws of records, by what their rows decode and put

-- the faults that maps have
abbrev pub IsOfMap : Fault → Type 0
IsOfMap fault.DecodeFailed = ⊥
IsOfMap fault.OutOfMemory = ⊥
IsOfMap fault.NotAMap = ⊥
IsOfMap _ = Unit {0}

module _ {P : Type 0} (t : Fields P) where
  -- ---- unknown members

  skipped : (before following : Members) (key value : Item) → named (table_of t) key ≡ unknown → (s : Progress P)
      → read_from t (before ++ (key, value) ∷ following) s ≡ read_from t (before ++ following) s
  skipped [] following key value naming s =
      ap (λ (n : Naming). result_and_then (λ r. read_from t following r) (one_more t n value s)) naming
  skipped (m ∷ before) following key value naming s =
      let rest = skipped before following key value naming in
      grind (arith, rest)

  pub unknown_is_skipped : (before following : Members) (key value : Item) → named (table_of t) key ≡ unknown
      → read_members t (before ++ (key, value) ∷ following) ≡ read_members t (before ++ following)
  unknown_is_skipped before following key value naming = skipped before following key value naming _

  -- ---- members that are decoded alike

  -- what the named rows make of the record
  abbrev read_known : List (ℕ × Item) → Progress P → Result P Fault
  read_known [] s = read_from t [] s
  read_known (x ∷ xs) s = result_and_then (λ r. read_known xs r) (one_more t (row x.0) x.1 s)

  by_known : (ms : Members) (s : Progress P) → HasNoWrongKey (table_of t) ms
      → read_from t ms s ≡ read_known (known (table_of t) ms) s
  by_known [] s right = refl
  by_known (m ∷ ms) s right =
      let IsRight : Item × Item → Type 0 = λ m. named (table_of t) m.0 ≢ wrong in
      let first = All-head IsRight m ms right in
      let rest = λ (r : Progress P). by_known ms r (All-tail IsRight m ms right) in
      grind (arith, first, rest)

  one_alike : (n k : ℕ) (x y : Item) → n ≡ k → AnswersAlike t n x y → (s : Progress P)
      → one_more t (row n) x s ≡ one_more t (row k) y s
  one_alike n k x y same h s = grind (arith, one_more, row)

  known_alike : (xs ys : List (ℕ × Item)) → SameAnswers t xs ys → (s : Progress P)
      → read_known xs s ≡ read_known ys s
  known_alike [] [] h s = refl
  known_alike (x ∷ xs) (y ∷ ys) h s = let rest = known_alike xs ys h.2 in grind (arith, one_alike, rest)
  known_alike _ _ h s = absurd h

  pub same_answers_read_alike : (ms ns : Members) → HasNoWrongKey (table_of t) ms → HasNoWrongKey (table_of t) ns
      → SameAnswers t (known (table_of t) ms) (known (table_of t) ns) → read_members t ms ≡ read_members t ns
  same_answers_read_alike ms ns right also h = grind (arith, by_known, known_alike, known, table_of)

  -- ---- faults

  map_fault : (ms : Members) (s : Progress P) → IfErr (read_from t ms s) IsOfMap
  map_fault [] s = grind arith
  map_fault (m ∷ ms) s = let rest = map_fault ms in grind (arith, rest)

  no_fault : (ms : Members) (e : Fault) → (IsOfMap e → ⊥) → read_members t ms ≢ Err e
  no_fault ms e none h = none (subst (λ (r : Result P Fault). IfErr r IsOfMap) h (map_fault ms _))

  pub knows_items : KnowsItems (read_item t)
  knows_items (item.map ps) =
      (no_fault (members ps) fault.DecodeFailed (λ h. h), no_fault (members ps) fault.OutOfMemory (λ h. h))
  knows_items _ = (λ e. cc, λ e. cc)

  pub knows_maps : KnowsMaps (read_item t)
  knows_maps ps = no_fault (members ps) fault.NotAMap (λ h. h)

pub alike_differ_in_length : {A P : Type 0} → AtMostOneLeadingItem → (view : A → P) (t : Fields P)
    → AlikeDifferInLength view (read_item t)
alike_differ_in_length law view t = alike law view (read_item t) (knows_items t)

pub skips_unknown : {A P : Type 0} → AtMostOneLeadingItem → (view : A → P) (t : Fields P) → PassesOverUnknown view t
skips_unknown law view t before following key value naming =
    search (rules, alike_differ_in_length, members-pairs_of, unknown_is_skipped)

-- ---- memory runs out only for an item that takes memory

pub may_grow : (table : Table) (i : Item) → MayGrowAt table i → Grows i
may_grow table (item.map no_pairs) h = absurd h
may_grow table (item.map (pair k v ps)) h = tt
may_grow table _ h = absurd h

pub message_fails : {A M : Type 0} (view : A → M) (table : Table) (read : Item → Result M Fault) (bytes : List ℕ)
    (i : Item) (len : ℕ) (e : Fault) → IsLeadingItem bytes i len → Reads view (MayGrowAt table i) (read i) (Err e)
    → ReadsMessage view read bytes (Err e)
message_fails view table read bytes i len e f h = grind (arith, may_grow)

-- ---- at a cursor

-- the cursor skipped the item, and went back
pub record WentBack (old s a : CursorState) : Type 0 where
  pub bytes : a.bytes ≡ s.bytes
  pub place : a.place ≡ old.place
  pub heads : a.heads ≡ s.heads
  pub nodes : a.nodes ≡ s.nodes

pub moves_back : (old s a : CursorState) (k : ℕ) → k ≡ old.place → a ≡ record s { place = k } → WentBack old s a
moves_back old s a k at e = grind (arith)

-- A message whose item was skipped and then decoded from the same place.
module _ {A P : Type 0} (view : A → P) (t : Fields P) (old s a b : CursorState) (p : PassesLeadingItem old s)
    (skipped : MovesForward old s) (back : WentBack old s a) (on : Onward a b) where
  item_stands : IsEncodedAt p.item a.bytes a.place (old.place + p.len)
  item_stands = rw (back.bytes, p.bytes, back.place) (front_stands p.item old.bytes old.place p.len p.front)

  only : (i : Item) (len : ℕ) → IsLeadingItem (ahead old) i len → (i ≡ p.item) × (len ≡ p.len)
  only i len f =
      let one = only_one p.item i old.bytes old.place (old.place + p.len) len
      (front_stands p.item old.bytes old.place p.len p.front) f in
      (one.0, omega (arith, one.1))

  heads_here : (result : Result A Fault) → DecodesRecord view t p.item (old.place + p.len) a b result → (i : Item)
      (len : ℕ) → IsLeadingItem (ahead old) i len → b.heads ≤ old.heads + suc (record_cost t) * len
  heads_here result d i len f = grind (arith, only)

  -- each of the item's heads was counted when it was skipped
  counted_here : (i : Item) (len : ℕ) → IsLeadingItem (ahead old) i len
      → raised old.heads (heads_of (take len (ahead old))) ≤ b.heads
  counted_here i len f = subst (λ (n : ℕ). raised old.heads (heads_of (take n (ahead old))) ≤ b.heads)
      (sym (only i len f).1) (omega (arith, p.counted, back.heads, on.heads))

  -- and what the message keeps when it was decoded
  kept_here : CountsLeast (least_in_map t p.item) a b → (i : Item) (len : ℕ) → IsLeadingItem (ahead old) i len
      → CountsLeast (least_here t i (take len (ahead old))) old b
  kept_here counts i len f =
      let own : Least = record { heads = heads_of (take len (ahead old)); nodes = 0 } in
      let first : CountsLeast own old a = record {
        heads = subst (λ (n : ℕ). raised old.heads (heads_of (take n (ahead old))) ≤ a.heads) (sym (only i len f).1)
            (omega (arith, p.counted, back.heads));
        nodes = omega (arith, skipped.nodes, back.nodes);
      } in
      least_then own (least_in_map t i) first
      (subst (λ (j : Item). CountsLeast (least_in_map t j) a b) (sym (only i len f).0) counts)

  -- what the code ensures of the item here
  abbrev Reading : Result A Fault → Type 0
  Reading result = (i : Item) (to : ℕ) → IsEncodedAt i a.bytes a.place to → DecodesRecord view t i to a b result

  pub message_is : (message : A) → Reading (Ok message) → ReadsHere view t (suc (record_cost t)) old b (Ok message)
  message_is message reads =
      let d = reads p.item (old.place + p.len) item_stands in
      let heads = heads_here (Ok message) d in
      let all = counted_here in
      let counts = kept_here d.counts in
      grind (arith, only, heads, all, counts, skipped, back, on, p, d)

  grows_there : (e : Fault) → Reads view (MayGrowAt (table_of t) p.item) (read_item t p.item) (Err e)
      → ◌≡◌ {A = Result A Fault} (Err e) (Err fault.OutOfMemory) → GrowsMessage t (ahead old)
  grows_there e h same = let front = p.front in grind (arith, front)

  pub fault_is : (e : Fault) (c : CursorState) (k : ℕ) → k ≡ old.place → c ≡ record b { place = k } → Reading (Err e)
      → ReadsHere view t (suc (record_cost t)) old c (Err e)
  fault_is e c k at same reads =
      let d = reads p.item (old.place + p.len) item_stands in
      let place : c.place ≡ old.place = ap (λ (w : CursorState). w.place) same ∙ at in
      let bytes : c.bytes ≡ b.bytes = ap (λ (w : CursorState). w.bytes) same in
      let inside : c.place ≤ length c.bytes =
      omega (arith, place, skipped.forward, skipped.within, ap length (bytes ∙ on.same ∙ back.bytes)) in
      let told = message_fails view (table_of t) (read_item t) (ahead old) p.item p.len e p.front d.answers in
      let grows = grows_there e d.answers in
      let all = counted_here in
      let heads : (i : Item) (len : ℕ) → IsLeadingItem (ahead old) i len → c.heads ≤ old.heads + suc (record_cost t) * len =
      λ i len f. omega (arith, ap (λ (w : CursorState). w.heads) same, heads_here (Err e) d i len f) in
      grind (arith, only, heads, all, inside, told, grows, same, at, skipped, p, back, on, d)
