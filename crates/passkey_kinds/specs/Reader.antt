-- Decoding values over a cursor.
use Rattle.passkey_kinds.specs.Base.{CountsHeads, Item, CursorState, signed_64, number, elements, members, Grows, IsEncodedAt, ByteMap, max_depth}
use Rattle.std.proofs.Common.{ℕ, arith, false, refl}
use Rattle.std.specs.Prelude.{◌≡◌, ℕ, ◌+◌, ◌*◌, ◌≤◌, ◌<◌, Bool, true, length, Option, Result, OnOk, pos, ◌==◌, false, if◌then◌else◌, List, Some, None, negsuc, ℕ, suc, max, nat_lt, IsTrue, false, [], ◌∷◌, ◌++◌, option_map, unwrap_or, ℤ}
use Rattle.passkey_cbor.specs.EncodedAt.{Lies, Walks, WalksOn}
use Rattle.passkey_cbor.specs.Inside.{Left, Within, PairWithin}
use Rattle.passkey_cbor.specs.Languages.{Language}
use Rattle.passkey_cbor.specs.Lent.{Region}
use Rattle.passkey_cbor.specs.declared.head.Head.{Head}
use Rattle.passkey_kinds.specs.Kind.{CountsKept, CountsLeast, Keeping, Least, if_accepted, least_of, least_sum, no_least, nothing, kept_of, kept_sum, Typed, AnswersAs, MayGrow, Kind, number_from, each, entry}
use Rattle.passkey_kinds.specs.declared.fault.Refusal.{Refusal}
use Rattle.std.proofs.Math.Nat.{mul-le-mul_left}
use Rattle.std.specs.List.{cons_option}
use Rattle.std.specs.Option.{option_and_then}
use Rattle.std.specs.FinMap as fin
use Rattle.passkey_cbor.specs.declared.head.Head.TheVariants as head
use Rattle.passkey_cbor.specs.Item as item

-- ---- decoding a value over a cursor

-- The cursor has the same bytes, didn't move back, is still within the bytes if it was before, and
-- its counts didn't fall.
pub record Onward (old new : CursorState) : Type 0 where
  pub same : new.bytes ≡ old.bytes
  pub within : old.place ≤ length old.bytes → new.place ≤ length new.bytes
  pub forward : old.place ≤ new.place
  pub heads : old.heads ≤ new.heads
  pub nodes : old.nodes ≤ new.nodes

-- The cursor moved on by whole heads, each with the content of its string, and counted at least as many.
pub record Further (old new : CursorState) : Type 0 where
  pub forward : old.place < new.place
  pub counts : CountsHeads old new

-- The cursor isn't past `to`. At most `cost` heads were decoded for each byte up to there,
-- and at most `kept` data items were made as values.
pub record Spends (cost kept to : ℕ) (old new : CursorState) : Type 0 where
  pub within : new.place ≤ to
  pub heads : new.heads + cost * old.place ≤ old.heads + cost * to
  pub nodes : new.nodes ≤ old.nodes + kept

-- The same with one head to spare, to look for the element.
pub record SpendsLess (cost kept to : ℕ) (old new : CursorState) : Type 0 where
  pub within : new.place ≤ to
  pub heads : suc new.heads + cost * old.place ≤ old.heads + cost * to
  pub nodes : new.nodes ≤ old.nodes + kept

-- Decoding a data item that ends at `to`: the result is as `AnswersAs` says for the wanted value,
-- decoding has at most this cost, and after a success the cursor is after the item.
pub record Decodes {A M : Type 0} (view : A → M) (wanted : Option M) (takes : Type 0) (cost kept to : ℕ)
    (old new : CursorState) (result : Result A Refusal) : Type 0 where
  pub answers : AnswersAs view wanted takes result
  pub spends : Spends cost kept to old new
  pub ends : OnOk result (new.place ≡ to)

-- The same, where the wanted value is the one that the kind has for the item.
abbrev pub ReadsAs : {A M : Type 0} → (A → M) → Typed M → Item → ℕ → CursorState → CursorState → Result A Refusal → Type 0
ReadsAs view k i to old new result = Decodes view (k.of i) (MayGrow k.takes i) k.cost (kept_of k.keeps i) to old
    new result

-- Decoding the item, which ends at `to`, has at most this cost; after a success the cursor is at
-- `to`, and what is kept was counted.
pub record Costs (cost : ℕ) (keeps : Keeping) (i : Item) (to : ℕ) (old new : CursorState) (ok : Bool) : Type 0 where
  pub spends : Spends cost (kept_of keeps i) to old new
  pub ends : ok ≡ true → new.place ≡ to
  pub counts : ok ≡ true → CountsKept keeps i old new

-- ---- looking at a string again

-- The cursor doesn't move, and at most one head is counted for each byte of the string's region.
pub record LooksAtMost (r : Region) (old new : CursorState) : Type 0 where
  pub heads : new.heads ≤ old.heads + length r.bytes
  pub rises : old.heads ≤ new.heads
  pub place : new.place ≡ old.place
  pub nodes : new.nodes ≡ old.nodes
  pub bytes : new.bytes ≡ old.bytes

-- ---- what a head says about its data item (RFC 8949, section 3)

-- the item, if it is an integer or a boolean; null stands for any other item
abbrev pub scalar_in : Item → Item
scalar_in (number z) = number z
scalar_in (item.boolean b) = item.boolean b
scalar_in _ = item.null

-- an integer that fits in 64 bits
abbrev pub signed_in : Item → Option ℤ
signed_in (number z) = signed_64 z
signed_in _ = None

abbrev pub head_scalar : Head → Item
head_scalar (head.Unsigned n) = number (pos n)
head_scalar (head.Negative n) = number (negsuc n)
head_scalar (head.Simple n) =
    if n == 20 then item.boolean false else (if n == 21 then item.boolean true else item.null)
head_scalar _ = item.null

abbrev pub scalar_of : Option Head → Item
scalar_of head = unwrap_or (option_map head_scalar head) item.null

abbrev pub head_array : Head → Option (Option ℕ)
head_array (head.Array left) = Some left
head_array _ = None

abbrev pub head_map : Head → Option (Option ℕ)
head_map (head.Map left) = Some left
head_map _ = None

-- Decoding one head returns the item, if it is an integer or a boolean, and then the cursor is after it.
pub record ReadsScalar (i : Item) (to : ℕ) (old new : CursorState) (found : Item) : Type 0 where
  pub is : found ≡ scalar_in i
  pub spends : Spends 1 0 to old new
  pub ends : (found ≡ item.null → ⊥) → new.place ≡ to

-- the elements of an array, and the members of a map
abbrev pub elements_in : Item → Option (List Item)
elements_in (item.array xs) = Some (elements xs)
elements_in _ = None

abbrev pub members_in : Item → Option (List (Item × Item))
members_in (item.map ps) = Some (members ps)
members_in _ = None

-- Decoding one head returns the length (`Some None` for an indefinite length), and the parts come
-- next; or it returns `None`, and the item has no such parts.
abbrev pub OpensAt : {X : Type 0} → (Item → Option (List X)) → (X → Language) → Item → ℕ → CursorState
    → Option (Option ℕ) → Type 0
OpensAt {X} parts Encoded i to new (Some left) =
    (xs : List X) × ((parts i ≡ Some xs) × Lies (Left Encoded left xs) new.bytes new.place to)
OpensAt parts Encoded i to new None = parts i ≡ None

-- ---- laws about a cursor that doesn't move: it has spent nothing, and `Onward` holds from it to itself

pub costs_nothing : (cost : ℕ) (keeps : Keeping) (i : Item) (to : ℕ) (s : CursorState) → IsEncodedAt i s.bytes s.place to
    → Costs cost keeps i to s s false
costs_nothing cost keeps i to s l = record {
  spends = record {
    within = l.forward;
    heads = omega (arith, mul-le-mul_left {m = s.place} {n = to} cost l.forward);
    nodes = omega arith;
  };
  ends = λ e. absurd cc;
  counts = λ e. absurd cc;
}

pub costs_at_most : (cost : ℕ) (keeps : Keeping) (i : Item) (to : ℕ) (s e : CursorState) → Costs cost keeps i to s e true
    → Costs cost keeps i to s e false
costs_at_most cost keeps i to s e spent =
    record { spends = spent.spends; ends = λ h. absurd cc; counts = λ h. absurd cc }

pub onward_same : (a : CursorState) → Onward a a
onward_same a =
    record { same = refl; within = λ h. h; forward = omega arith; heads = omega arith; nodes = omega arith }

-- ---- elements that are decoded one after the other and put together

-- What is put together from this value on, if no element is refused.
abbrev pub collected : {X V : Type 0} → (X → V → Option V) → List X → V → Option V
collected next [] v = Some v
collected next (x ∷ xs) v = option_and_then (λ w. collected next xs w) (next x v)

-- A way of putting elements together: the elements of an item, and their encodings; what one more
-- makes of the value, if it isn't refused; whether decoding an element may take memory; the most heads
-- that it decodes for each byte of the element; the data items that it makes as values at most; what it
-- counts at least if it isn't refused; and that an item with an element takes memory, and that a list
-- goes from one element to the next.
pub record Way (X V : Type 0) : Type 1 where
  pub parts : Item → Option (List X)
  pub Encoded : X → Language
  pub next : X → V → Option V
  pub takes : Bool
  pub cost : ℕ
  pub kept : X → ℕ
  pub least : X → Least
  pub grows : (i : Item) (xs : List X) → parts i ≡ Some xs → 0 < length xs → Grows i
  pub walked : (before after : Option ℕ) (old new : CursorState) (found : Bool) → WalksOn before after old new found
      → Walks Encoded before after old new found

-- Decoding and adding an element that ends at `to`, and what was put together before and after it.
pub record AddsOne {X V : Type 0} (w : Way X V) (x : X) (before after : V) (to : ℕ) (old new : CursorState)
    (result : Result (Unit {0}) Refusal) : Type 0 where
  pub answers : AnswersAs (λ _. after) (w.next x before) (IsTrue w.takes) result
  pub spends : SpendsLess (suc w.cost) (w.kept x) to old new
  pub ends : OnOk result (new.place ≡ to)
  pub counts : OnOk result (CountsLeast (w.least x) old new)

-- the data items that are made as values at most for all of them
abbrev pub kept_parts : {X : Type 0} → (X → ℕ) → Option (List X) → ℕ
kept_parts kept None = 0
kept_parts kept (Some xs) = kept_sum kept xs

-- what is counted at least for all of them
abbrev pub least_parts : {X : Type 0} → (X → Least) → Option (List X) → Least
least_parts least None = no_least
least_parts least (Some xs) = least_sum least xs

-- Decoding an item whose elements are put together from this value on. The first byte costs one head
-- alone.
pub record Collects {C X V : Type 0} (value : C → V) (w : Way X V) (v : V) (i : Item) (to : ℕ) (old new : CursorState)
    (result : Result C Refusal) : Type 0 where
  pub decodes : Decodes value (option_and_then (λ xs. collected w.next xs v) (w.parts i)) (MayGrow w.takes i)
      (suc w.cost) (kept_parts w.kept (w.parts i)) to old new result
  pub heads : new.heads + suc w.cost * suc old.place ≤ suc old.heads + suc w.cost * to
  pub counts : OnOk result (CountsLeast (least_parts w.least (w.parts i)) old new)

pub grows_elements : (i : Item) (xs : List Item) → elements_in i ≡ Some xs → 0 < length xs → Grows i
grows_elements i xs e some = grind arith

pub grows_members : (i : Item) (ms : List (Item × Item)) → members_in i ≡ Some ms → 0 < length ms → Grows i
grows_members i ms e some = grind arith

-- A way of putting the elements of an array together: the same, by what decoding an element has as cost
-- and makes as values.
pub record Gathering (V : Type 0) : Type 0 where
  pub next : Item → V → Option V
  pub takes : Bool
  pub cost : ℕ
  pub keeps : Keeping

abbrev pub in_array : {V : Type 0} → Gathering V → Way Item V
in_array g = record {
  parts = elements_in;
  Encoded = Within max_depth;
  next = g.next;
  takes = g.takes;
  cost = g.cost;
  kept = kept_of g.keeps;
  least = least_of g.keeps;
  grows = grows_elements;
  walked = λ before after old new found walks. walks.items;
}

-- after the others
abbrev pub pushed : {M : Type 0} → Kind M → Item → List M → Option (List M)
pushed kind i xs = option_map (λ x. xs ++ x ∷ []) (kind i)

abbrev pub pushing : {M : Type 0} → Typed M → Gathering (List M)
pushing k = record { next = pushed k.of; takes = true; cost = k.cost; keeps = k.keeps }

-- after the others, unless the kind refuses it
abbrev pub pushed_if : {M : Type 0} → Kind M → Item → List M → Option (List M)
pushed_if kind i xs = Some (xs ++ cons_option (kind i) [])

abbrev pub pushing_if : {M : Type 0} → Typed M → Gathering (List M)
pushing_if k =
    record { next = pushed_if k.of; takes = true; cost = suc k.cost; keeps = if_accepted k.of k.keeps }

-- after the others, of which there are fewer than n
abbrev pub pushed_below : {M : Type 0} → ℕ → Kind M → Item → List M → Option (List M)
pushed_below n kind i xs = if nat_lt (length xs) n then pushed kind i xs else None

-- bytes, at most n of them
abbrev pub filling : ℕ → Gathering (List ℕ)
filling n = record { next = pushed_below n (number_from 256); takes = false; cost = 1; keeps = nothing }

-- the list, if it has n elements
abbrev pub full : {M : Type 0} → ℕ → List M → Option (List M)
full n xs = if length xs == n then Some xs else None

-- the bytes of an array of n integers from 0 to 255
abbrev pub numbers_in : ℕ → Item → Option (List ℕ)
numbers_in n i = option_and_then (λ is. if length is == n then each (number_from 256) is else None) (elements_in i)

-- under its key
abbrev pub entered : {M : Type 0} → Kind M → Item × Item → ByteMap M → Option (ByteMap M)
entered kind x m = option_map (λ e. fin.insert m e.0 e.1) (entry kind x)

abbrev pub entering : {M : Type 0} → Typed M → Way (Item × Item) (ByteMap M)
entering k = record {
  parts = members_in;
  Encoded = PairWithin max_depth;
  next = entered k.of;
  takes = true;
  cost = max 3 k.cost;
  kept = λ m. kept_of k.keeps m.1;
  least = λ m. least_of k.keeps m.1;
  grows = grows_members;
  walked = λ before after old new found walks. walks.pairs;
}
