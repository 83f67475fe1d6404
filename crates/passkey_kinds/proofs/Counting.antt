-- What is counted at least.
use Rattle.passkey_kinds.proofs.Common.{Fault, as_nested, Item, byte_string, null, CursorState, MovesForward, raised, members-pairs_of, pairs_of, elements_in, members_in, Keeping, nothing, counted, kept_of, in_elements, in_members, Kind, CountsData, Fields, Members, none_keeps, kept_in_map, record_keeps, Onward, Refusal, Refused, OutOfMemory, ◌≡◌, ◌∙◌, ◌+◌, ◌-◌, ◌^◌, ◌≤◌, ℕ, suc, zero, min, arith, Bool, true, false, if◌then◌else◌, List, Option, Some, None, is_some, Result, Ok, Err, OnOk, is_ok, refl, sym, ap, subst}
use Rattle.passkey_kinds.specs.Kind.{CountsDataItems, CountsKept, CountsLeast, Least, UnlessOutOfMemory, authenticator_data_least, if_accepted, least_and, least_elements, least_members, least_of, least_sum, least_unless_null, no_least, unless_null}
use Rattle.passkey_kinds.specs.Reader.{least_parts}
use Rattle.passkey_kinds.specs.RecordReading.{least_in, least_in_map}
use Rattle.passkey_cbor.proofs.heads.Raised.{raised_monotone, raised_then}
use Rattle.passkey_cbor.specs.Item as item
use Rattle.passkey_kinds.specs.declared.fault.Fault.TheVariants as fault

-- ---- counts, one after the other

pub rises : {a b : CursorState} → Onward a b → CountsLeast no_least a b
rises on = record { heads = on.heads; nodes = on.nodes }

pub least_then : (x y : Least) {a b c : CursorState} → CountsLeast x a b → CountsLeast y b c
    → CountsLeast (least_and x y) a c
least_then x y {a} {b} {c} p q = record {
  heads = raised_then a.heads b.heads c.heads x.heads y.heads p.heads q.heads;
  nodes = raised_then a.nodes b.nodes c.nodes x.nodes y.nodes p.nodes q.nodes;
}

pub least_later : (x : Least) {a b c : CursorState} → CountsLeast no_least a b → CountsLeast x b c → CountsLeast x a c
least_later x {a} {b} p q = record {
  heads = omega (arith, raised_monotone a.heads b.heads x.heads p.heads, q.heads);
  nodes = omega (arith, raised_monotone a.nodes b.nodes x.nodes p.nodes, q.nodes);
}

-- the cursor went back in between
pub rises_again : {a b d e : CursorState} {place : ℕ} → Onward a b → d ≡ record b { place = place } → MovesForward d e
    → CountsLeast no_least a e
rises_again on back moves = record {
  heads = omega (arith, on.heads, ap (λ (w : CursorState). w.heads) back, moves.heads);
  nodes = omega (arith, on.nodes, ap (λ (w : CursorState). w.nodes) back, moves.nodes);
}

-- ---- what a kind keeps

pub kept_later : (k : Keeping) (i : Item) (a b c : CursorState) → CountsLeast no_least a b → CountsKept k i b c
    → CountsKept k i a c
kept_later nothing i a b c p q = tt
kept_later (counted most least) i a b c p q = least_later (least i) p q

pub kept_least : (k : Keeping) (i : Item) (a b : CursorState) → Onward a b → CountsKept k i a b
    → CountsLeast (least_of k i) a b
kept_least nothing i a b on q = rises on
kept_least (counted most least) i a b on q = q

-- ---- null, and items that are refused

pub kept_unless_null : (k : Keeping) (i : Item) → kept_of (unless_null k) i ≡ kept_of k i
kept_unless_null nothing i = refl
kept_unless_null (counted most least) i = refl

least_other : (least : Item → Least) (i : Item) → (i ≡ null → ⊥) → least_unless_null least i ≡ least i
least_other least item.null other = absurd (other refl)
least_other least _ other = refl

pub kept_other : (k : Keeping) (i : Item) (a b : CursorState) → (i ≡ null → ⊥) → CountsKept k i a b
    → CountsKept (unless_null k) i a b
kept_other nothing i a b other q = tt
kept_other (counted most least) i a b other q =
    subst (λ (l : Least). CountsLeast l a b) (sym (least_other least i other)) q

pub kept_null : (k : Keeping) (i : Item) (a b : CursorState) → i ≡ null → Onward a b
    → CountsKept (unless_null k) i a b
kept_null nothing i a b is on = tt
kept_null (counted most least) i a b is on =
    subst (λ (l : Least). CountsLeast l a b) (sym (ap (least_unless_null least) is)) (rises on)

module _ {M : Type 0} (kind : Kind M) where
  pub kept_if_accepted : (k : Keeping) (i : Item) → kept_of (if_accepted kind k) i ≡ kept_of k i
  kept_if_accepted nothing i = refl
  kept_if_accepted (counted most least) i = refl

  least_if : (o : Option M) (i : Item) (least : Item → Least) (a b : CursorState) → kind i ≡ o
      → CountsLeast (if is_some o then least i else no_least) a b
      → CountsLeast (if is_some (kind i) then least i else no_least) a b
  least_if o i least a b is q =
      subst (λ (o : Option M). CountsLeast (if is_some o then least i else no_least) a b) (sym is) q

  pub kept_accepted : (k : Keeping) (i : Item) (x : M) (a b : CursorState) → kind i ≡ Some x → CountsKept k i a b
      → CountsKept (if_accepted kind k) i a b
  kept_accepted nothing i x a b is q = tt
  kept_accepted (counted most least) i x a b is q = least_if (Some x) i least a b is q

  pub kept_refused : (k : Keeping) (i : Item) (a b : CursorState) → kind i ≡ None → CountsLeast no_least a b
      → CountsKept (if_accepted kind k) i a b
  kept_refused nothing i a b is risen = tt
  kept_refused (counted most least) i a b is risen = least_if None i least a b is risen

-- ---- arrays, maps and records

elements_are : (least : Item → Least) (i : Item) → least_parts least (elements_in i) ≡ least_elements least i
elements_are least (item.array xs) = refl
elements_are least _ = refl

pub elements_kept : (k : Keeping) (i : Item) (a b : CursorState)
    → CountsLeast (least_parts (least_of k) (elements_in i)) a b → CountsKept (in_elements k) i a b
elements_kept nothing i a b q = tt
elements_kept (counted most least) i a b q =
    subst (λ (l : Least). CountsLeast l a b) (elements_are least i) q

members_are : (least : Item → Least) (i : Item)
    → least_parts (λ m. least m.1) (members_in i) ≡ least_members least i
members_are least (item.map ps) = refl
members_are least _ = refl

pub members_kept : (k : Keeping) (i : Item) (a b : CursorState)
    → CountsLeast (least_parts (λ m. least_of k m.1) (members_in i)) a b → CountsKept (in_members k) i a b
members_kept nothing i a b q = tt
members_kept (counted most least) i a b q =
    subst (λ (l : Least). CountsLeast l a b) (members_are least i) q

module _ {P : Type 0} (t : Fields P) where
  kept_if : (none : Bool) (i : Item) (a b : CursorState) → CountsLeast (least_in_map t i) a b
      → CountsKept (if none then nothing else counted (kept_in_map t) (least_in_map t)) i a b
  kept_if true i a b q = tt
  kept_if false i a b q = q

  pub record_kept : (i : Item) (a b : CursorState) → CountsLeast (least_in_map t i) a b
      → CountsKept (record_keeps t) i a b
  record_kept i a b q = kept_if (none_keeps t.rows) i a b q

  -- after the map's head
  pub map_counts : {A E : Type 0} (r : Result A E) (ms : Members) (i : Item) {a b : CursorState} (c : CursorState)
      → i ≡ item.map (pairs_of ms) → Onward a b → OnOk r (CountsLeast (least_in t ms) b c) → OnOk r (CountsLeast (least_in_map t i) a c)
  map_counts (Ok x) ms i {a} c is on q =
      let same : least_in t ms ≡ least_in_map t i =
      sym (ap (least_in_map t) is ∙ ap (least_in t) (members-pairs_of ms)) in
      subst (λ (l : Least). CountsLeast l a c) same (least_later (least_in t ms) (rises on) q)
  map_counts (Err e) ms i c is on q = tt

-- ---- authenticator data

pub unless_ok : {A P : Type 0} (r : Result A Refusal) → UnlessOutOfMemory r P → is_ok r ≡ true → P
unless_ok (Ok x) h e = h
unless_ok (Err Refused) h e = absurd cc
unless_ok (Err OutOfMemory) h e = absurd cc

raised_by : (n k m : ℕ) → n ≤ m → min (n + k) (2 ^ 128 - 1) ≤ m → raised n k ≤ m
raised_by n zero m rises most = rises
raised_by n (suc k) m rises most = most

pub data_kept : (i : Item) (t : List ℕ) {a b c : CursorState} → i ≡ byte_string t → CountsLeast no_least a b
    → CountsData t b c → CountsDataItems t b.heads b.nodes c.heads c.nodes
    → CountsLeast (authenticator_data_least i) a c
data_kept i t {a} {b} {c} is before counts all =
    let here : CountsLeast (authenticator_data_least (byte_string t)) b c = record {
      heads = raised_by _ _ _ counts.heads_rise all.all_heads;
      nodes = raised_by _ _ _ counts.nodes_rise all.all_nodes;
    } in
    subst (λ (l : Least). CountsLeast l a c) (sym (ap authenticator_data_least is))
    (least_later (authenticator_data_least (byte_string t)) before here)

-- ---- the parts of an item, after its head

pub parts_counts : {X A E : Type 0} (least : X → Least) (r : Result A E) (parts : Option (List X)) (xs : List X)
    {a b : CursorState} (c : CursorState) → parts ≡ Some xs → Onward a b → OnOk r (CountsLeast (least_sum least xs) b c)
    → OnOk r (CountsLeast (least_parts least parts) a c)
parts_counts least (Ok x) parts xs {a} c is on q =
    subst (λ (l : Least). CountsLeast l a c) (sym (ap (least_parts least) is)) (least_later (least_sum least xs) (rises on) q)
parts_counts least (Err e) parts xs c is on q = tt

-- ---- a record inside another one

pub nested_ok : {A P : Type 0} (r : Result A Fault) (s : Result A Refusal) → s ≡ as_nested r → is_ok s ≡ true → OnOk r P
    → P
nested_ok (Ok x) s is ok h = h
nested_ok (Err fault.OutOfMemory) s is ok h = absurd cc
nested_ok (Err _) s is ok h = absurd cc
