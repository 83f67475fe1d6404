-- Where a cursor is in its bytes, and what it has counted.
use Rattle.std.specs.Prelude.{◌≡◌, ℕ, zero, suc, ◌+◌, ◌-◌, ◌^◌, ◌≤◌, min, List, length, drop, Option, Some, None}
use Rattle.passkey_cbor.specs.Bytes.{IsBytes}

pub record CursorState : Type 0 where
  pub bytes : List ℕ
  pub place : ℕ
  pub heads : ℕ
  pub nodes : ℕ

-- the bytes from the cursor's offset on
abbrev pub ahead : CursorState → List ℕ
ahead w = drop w.place w.bytes

-- a count raised by k, saturating at 2^128 - 1
abbrev pub raised : ℕ → ℕ → ℕ
raised n zero = n
raised n (suc k) = min (n + suc k) (2 ^ 128 - 1)

-- how many heads are decoded to see whether a list goes on: none if its length is definite, and else one, which
-- may be the break
abbrev pub break_heads : Option ℕ → ℕ
break_heads (Some n) = 0
break_heads None = 1

-- What holds of every cursor: its offset is within the bytes, and every number in them is a byte.
pub record IsPlaced (bytes : List ℕ) (place : ℕ) : Type 0 where
  pub within : place ≤ length bytes
  pub fits : IsBytes bytes

abbrev pub IsInside : CursorState → Type 0
IsInside w = w.place ≤ length w.bytes

-- The cursor moved forward, and counted at most one head for each byte that it passed, and no data items.
pub record Passed (old new : CursorState) : Type 0 where
  pub same : new.bytes ≡ old.bytes
  pub within : new.place ≤ length new.bytes
  pub forward : old.place ≤ new.place
  pub rises : old.heads ≤ new.heads
  pub heads : new.heads + old.place ≤ old.heads + new.place
  pub nodes : new.nodes ≡ old.nodes

-- The cursor stopped, and counted at most one head more than there were bytes ahead, and no data items.
pub record Stopped (old new : CursorState) : Type 0 where
  pub same : new.bytes ≡ old.bytes
  pub within : new.place ≤ length new.bytes
  pub forward : old.place ≤ new.place
  pub rises : old.heads ≤ new.heads
  pub heads : new.heads ≤ old.heads + length (ahead old) + 1
  pub nodes : new.nodes ≡ old.nodes

-- The cursor has the same bytes and hasn't moved back, and its counts didn't decrease.
pub record MovesForward (old new : CursorState) : Type 0 where
  pub same : new.bytes ≡ old.bytes
  pub within : new.place ≤ length new.bytes
  pub forward : old.place ≤ new.place
  pub heads : old.heads ≤ new.heads
  pub nodes : old.nodes ≤ new.nodes

-- The cursor doesn't move, and counts one head.
pub record LooksOnce (old new : CursorState) : Type 0 where
  pub place : new.place ≡ old.place
  pub heads : new.heads ≡ raised old.heads 1
  pub nodes : new.nodes ≡ old.nodes
  pub bytes : new.bytes ≡ old.bytes
