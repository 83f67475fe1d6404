-- The result of skipping the leading data item.
use Rattle.std.specs.Prelude.{◌≡◌, ℕ, ◌+◌, ◌≤◌, length, take, Bool, true, false}
use Rattle.passkey_cbor.specs.Item.{Item}
use Rattle.passkey_cbor.specs.LeadingItem.{IsLeadingItem, HasNoLeadingItem}
use Rattle.passkey_cbor.specs.CursorState.{CursorState, ahead, raised}
use Rattle.passkey_cbor.specs.HeadCount.{AreHeads, heads_of}
use Rattle.passkey_cbor.specs.HeadsDecoded.{heads_decoded}

-- The cursor passed the leading data item, and counted each of its heads: at least one, and at most one for each
-- of the item's bytes.
pub record PassesLeadingItem (old new : CursorState) : Type 0 where
  pub item : Item
  pub len : ℕ
  pub front : IsLeadingItem (ahead old) item len
  pub place : new.place ≡ old.place + len
  pub whole : AreHeads (heads_of (take len (ahead old))) (take len (ahead old))
  pub counted : new.heads ≡ raised old.heads (heads_of (take len (ahead old)))
  pub least : raised old.heads 1 ≤ new.heads
  pub heads : new.heads ≤ old.heads + len
  pub nodes : new.nodes ≡ old.nodes
  pub bytes : new.bytes ≡ old.bytes

-- There is no leading data item, and the cursor doesn't move. It counted each head that was decoded up to the fault:
-- at least one, and at most one more than there are bytes ahead.
pub record FindsNoLeadingItem (old new : CursorState) : Type 0 where
  pub none : HasNoLeadingItem (ahead old)
  pub decoded : new.heads ≡ raised old.heads (heads_decoded (ahead old))
  pub place : new.place ≡ old.place
  pub least : raised old.heads 1 ≤ new.heads
  pub heads : new.heads ≤ old.heads + length (ahead old) + 1
  pub nodes : new.nodes ≡ old.nodes
  pub bytes : new.bytes ≡ old.bytes

abbrev pub SkipsLeadingItem : CursorState → CursorState → Bool → Type 0
SkipsLeadingItem old new true = PassesLeadingItem old new
SkipsLeadingItem old new false = FindsNoLeadingItem old new
