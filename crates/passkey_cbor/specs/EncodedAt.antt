-- Which data items are encoded where in the bytes. Offsets count from the first byte, wherever the cursor is.
use Rattle.std.specs.Prelude.{◌≡◌, ℕ, ◌+◌, ◌-◌, ◌*◌, ◌≤◌, ◌==◌, nat_lt, not, List, [], ◌∷◌, ◌++◌, length, drop, Bool, true, false, Option, Some, None, Result, Ok, Err}
use Rattle.passkey_cbor.specs.Item.{Item}
use Rattle.passkey_cbor.specs.Nodes.{nodes}
use Rattle.passkey_cbor.specs.Languages.{Language}
use Rattle.passkey_cbor.specs.LeadingItem.{max_depth}
use Rattle.passkey_cbor.specs.Grows.{Grows}
use Rattle.passkey_cbor.specs.Inside.{Within, PairWithin, Left, Inside}
use Rattle.passkey_cbor.specs.View.{item_of}
use Rattle.passkey_cbor.specs.Heads.{break}
use Rattle.passkey_cbor.specs.CursorState.{CursorState, ahead, raised, break_heads}
use Rattle.passkey_cbor.specs.HeadCount.{heads_between}
use Rattle.passkey_cbor.specs.declared.head.Head.{Head}
use Rattle.passkey_cbor.specs.declared.value.Value.{Value}
use Rattle.passkey_cbor.specs.declared.error.CborError.{CborError}
use Rattle.passkey_cbor.specs.declared.error.CborError.TheVariants as error

-- The bytes from one offset to the other are in the language.
pub record Lies (P : Language) (bytes : List ℕ) (from to : ℕ) : Type 0 where
  pub text : List ℕ
  pub encoded : P text
  pub parts : drop from bytes ≡ text ++ drop to bytes
  pub forward : from ≤ to
  pub within : to ≤ length bytes

-- These bytes, from one offset to the other, encode the data item, which has at most 256 levels.
abbrev pub IsEncodedAt : Item → List ℕ → ℕ → ℕ → Type 0
IsEncodedAt x = Lies (Within max_depth x)

-- These bytes encode the members that are left of a map, with the break if the length is indefinite.
abbrev pub PairsAreEncodedAt : Option ℕ → List (Item × Item) → List ℕ → ℕ → ℕ → Type 0
PairsAreEncodedAt left ms = Lies (Left (PairWithin max_depth) left ms)

-- ---- what a cursor's calls do if a data item is encoded from the cursor's offset to `to`

-- `head` decodes the data item's head, and the rest of the item's encoding follows, up to `to`.
abbrev pub Opens : Item → ℕ → CursorState → Option Head → Type 0
Opens x to new (Some h) = Lies (Inside h x) new.bytes new.place to
Opens x to new None = ⊥

-- `skip` passes the data item, and counts each of its heads: at least one, and at most one for each of the item's
-- bytes.
pub record Passes (to : ℕ) (old new : CursorState) (found : Bool) : Type 0 where
  pub is_found : found ≡ true
  pub place : new.place ≡ to
  pub counted : new.heads ≡ raised old.heads (heads_between old.bytes old.place to)
  pub least : raised old.heads 1 ≤ new.heads
  pub heads : new.heads + old.place ≤ old.heads + to
  pub nodes : new.nodes ≡ old.nodes
  pub bytes : new.bytes ≡ old.bytes

-- `value` decodes the data item and passes it; or it runs out of memory, and the cursor doesn't move. It counts
-- each of its heads at least once: at least one, and at most two for each of the item's bytes.
pub record Valued (x : Item) (to : ℕ) (old new : CursorState) (v : Value) : Type 0 where
  pub value : item_of v ≡ x
  pub place : new.place ≡ to
  pub all : raised old.heads (heads_between old.bytes old.place to) ≤ new.heads
  pub least : raised old.heads 1 ≤ new.heads
  pub heads : new.heads + 2 * old.place ≤ old.heads + 2 * to
  pub nodes : new.nodes ≡ raised old.nodes (nodes x)
  pub bytes : new.bytes ≡ old.bytes

pub record NotValued (x : Item) (to : ℕ) (old new : CursorState) : Type 0 where
  pub grows : Grows x
  pub place : new.place ≡ old.place
  pub all : raised old.heads (heads_between old.bytes old.place to) ≤ new.heads
  pub least : raised old.heads 1 ≤ new.heads
  pub heads : new.heads + 2 * old.place ≤ old.heads + 2 * to
  pub least_nodes : old.nodes ≤ new.nodes
  pub nodes : new.nodes ≤ old.nodes + nodes x
  pub bytes : new.bytes ≡ old.bytes

abbrev pub Values : Item → ℕ → CursorState → CursorState → Result Value CborError → Type 0
Values x to old new (Ok v) = Valued x to old new v
Values x to old new (Err error.DecodeFailed) = ⊥
Values x to old new (Err error.OutOfMemory) = NotValued x to old new
Values x to old new (Err error.OutOfRangeIntegerValue) = ⊥

-- `value_ahead` decodes the data item in one walk: it counts each of its heads once, at least one and at most one for
-- each of the item's bytes. If it runs out of memory, it counted some of them, and the cursor doesn't move.
pub record ValuedAhead (x : Item) (to : ℕ) (old new : CursorState) (v : Value) : Type 0 where
  pub value : item_of v ≡ x
  pub place : new.place ≡ to
  pub counted : new.heads ≡ raised old.heads (heads_between old.bytes old.place to)
  pub heads : new.heads + old.place ≤ old.heads + to
  pub nodes : new.nodes ≡ raised old.nodes (nodes x)
  pub bytes : new.bytes ≡ old.bytes

pub record NotValuedAhead (x : Item) (to : ℕ) (old new : CursorState) : Type 0 where
  pub grows : Grows x
  pub place : new.place ≡ old.place
  pub least : old.heads ≤ new.heads
  pub heads : new.heads + old.place ≤ old.heads + to
  pub least_nodes : old.nodes ≤ new.nodes
  pub nodes : new.nodes ≤ old.nodes + nodes x
  pub bytes : new.bytes ≡ old.bytes

abbrev pub ValuesAhead : Item → ℕ → CursorState → CursorState → Result Value CborError → Type 0
ValuesAhead x to old new (Ok v) = ValuedAhead x to old new v
ValuesAhead x to old new (Err error.DecodeFailed) = ⊥
ValuesAhead x to old new (Err error.OutOfMemory) = NotValuedAhead x to old new
ValuesAhead x to old new (Err error.OutOfRangeIntegerValue) = ⊥

-- ---- iterating over the elements of an array or the members of a map

-- The first of the elements that are left is encoded at the cursor, and the others after it.
pub record Next {A : Type 0} (P : A → Language) (left : Option ℕ) (xs : List A) (bytes : List ℕ) (from to : ℕ) :
    Type 0 where
  pub first : A
  pub others : List A
  pub whole : xs ≡ first ∷ others
  pub middle : ℕ
  pub here : Lies (P first) bytes from middle
  pub after : Lies (Left P left others) bytes middle to

-- whether an element is left; if none is, the cursor is at the list's end
abbrev pub NextIf : {A : Type 0} → (A → Language) → Option ℕ → List A → CursorState → ℕ → Bool → Type 0
NextIf P left xs new to true = Next P left xs new.bytes new.place to
NextIf P left xs new to false = (xs ≡ []) × (new.place ≡ to)

-- The result of `more` if elements in these languages are left, from the cursor's offset to some other offset.
abbrev pub Walks : {A : Type 0} → (A → Language) → Option ℕ → Option ℕ → CursorState → CursorState → Bool → Type 0
Walks {A} P before after old new found =
    (xs : List A) (to : ℕ) → Lies (Left P before xs) old.bytes old.place to → NextIf P after xs new to found

-- whether the list goes on: its head counts more elements, or the next byte is no break
abbrev pub goes_on : Option ℕ → List ℕ → Bool
goes_on (Some n) bytes = nat_lt 0 n
goes_on None [] = true
goes_on None (b ∷ bytes) = not (b == break)

-- how many elements are left after the call: one fewer if the list goes on
abbrev pub left_after : Option ℕ → Bool → Option ℕ
left_after (Some n) true = Some (n - 1)
left_after (Some n) false = Some n
left_after None found = None

-- What `more` returns, and where it leaves the cursor, whatever bytes follow: it passes a break, and else the
-- cursor doesn't move.
pub record Looks (before after : Option ℕ) (old new : CursorState) (found : Bool) : Type 0 where
  pub answer : found ≡ goes_on before (ahead old)
  pub left : after ≡ left_after before found
  pub stays : found ≡ true → new.place ≡ old.place
  pub passes : found ≡ false → new.place ≡ old.place + break_heads before
  pub within : new.place ≤ length new.bytes
  pub heads : new.heads ≡ raised old.heads (break_heads before)
  pub nodes : new.nodes ≡ old.nodes
  pub bytes : new.bytes ≡ old.bytes

pub record WalksOn (before after : Option ℕ) (old new : CursorState) (found : Bool) : Type 0 where
  pub items : Walks (Within max_depth) before after old new found
  pub pairs : Walks (PairWithin max_depth) before after old new found
  pub looks : Looks before after old new found
