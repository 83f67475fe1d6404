-- The result of decoding the leading data item to a `Value`.
use Rattle.std.specs.Prelude.{◌≡◌, ℕ, ◌+◌, ◌*◌, ◌≤◌, take, Result, Ok, Err}
use Rattle.passkey_cbor.specs.Item.{Item}
use Rattle.passkey_cbor.specs.Nodes.{nodes}
use Rattle.passkey_cbor.specs.LeadingItem.{IsLeadingItem}
use Rattle.passkey_cbor.specs.Grows.{Grows}
use Rattle.passkey_cbor.specs.View.{item_of}
use Rattle.passkey_cbor.specs.CursorState.{CursorState, ahead, raised}
use Rattle.passkey_cbor.specs.HeadCount.{AreHeads, heads_of}
use Rattle.passkey_cbor.specs.Skipped.{FindsNoLeadingItem}
use Rattle.passkey_cbor.specs.declared.value.Value.{Value}
use Rattle.passkey_cbor.specs.declared.error.CborError.{CborError}
use Rattle.passkey_cbor.specs.declared.error.CborError.TheVariants as error

-- The cursor decoded the leading data item and passed it. It counted each of its heads at least once: at least
-- one, and at most two for each of the item's bytes; and it counted the item and every item in it.
pub record MakesLeadingItem (old new : CursorState) (x : Item) : Type 0 where
  pub len : ℕ
  pub front : IsLeadingItem (ahead old) x len
  pub place : new.place ≡ old.place + len
  pub whole : AreHeads (heads_of (take len (ahead old))) (take len (ahead old))
  pub all : raised old.heads (heads_of (take len (ahead old))) ≤ new.heads
  pub least : raised old.heads 1 ≤ new.heads
  pub heads : new.heads ≤ old.heads + 2 * len
  pub nodes : new.nodes ≡ raised old.nodes (nodes x)
  pub bytes : new.bytes ≡ old.bytes

-- The leading data item takes memory, and an allocation failed; the cursor doesn't move, and its counts don't
-- decrease.
pub record FindsNoMemory (old new : CursorState) : Type 0 where
  pub item : Item
  pub len : ℕ
  pub front : IsLeadingItem (ahead old) item len
  pub grows : Grows item
  pub place : new.place ≡ old.place
  pub all : raised old.heads (heads_of (take len (ahead old))) ≤ new.heads
  pub least : raised old.heads 1 ≤ new.heads
  pub heads : new.heads ≤ old.heads + 2 * len
  pub least_nodes : old.nodes ≤ new.nodes
  pub nodes : new.nodes ≤ old.nodes + nodes item
  pub bytes : new.bytes ≡ old.bytes

abbrev pub ReadsValue : CursorState → CursorState → Result Value CborError → Type 0
ReadsValue old new (Ok v) = MakesLeadingItem old new (item_of v)
ReadsValue old new (Err error.DecodeFailed) = FindsNoLeadingItem old new
ReadsValue old new (Err error.OutOfMemory) = FindsNoMemory old new
ReadsValue old new (Err error.OutOfRangeIntegerValue) = ⊥
