-- The pieces of a borrowed string, one after the other: the string itself, or its chunks (RFC 8949, section
-- 3.2.3).
use Rattle.std.specs.Prelude.{◌≡◌, ℕ, ◌+◌, ◌<◌, List, [], ◌++◌, length, Bool, Option, Some, None}
use Rattle.passkey_cbor.specs.Lent.{Region, HoldsString, heads_in}
use Rattle.passkey_cbor.specs.CursorState.{CursorState, raised, break_heads}

-- The string is the piece followed by the rest. The heads are counted likewise: a chunk has one, and a string
-- of definite length has none.
pub record IsLeft (is_text : Bool) (old new : Region) (piece s : List ℕ) (t : HoldsString is_text old s) : Type 0 where
  pub rest : List ℕ
  pub tells : HoldsString is_text new rest
  pub whole : s ≡ piece ++ rest
  pub heads : heads_in is_text old.len s old.bytes t
      ≡ break_heads old.len + heads_in is_text new.len rest new.bytes tells

-- A piece was returned, and fewer bytes are left.
pub record LendsPiece (is_text : Bool) (old new : Region) (piece : List ℕ) : Type 0 where
  pub left : (s : List ℕ) (t : HoldsString is_text old s) → IsLeft is_text old new piece s t
  pub shorter : length new.bytes < length old.bytes

-- No piece is left; if the string is in chunks, only the break is left.
abbrev pub IsAtEnd : Bool → Region → Type 0
IsAtEnd is_text r = (s : List ℕ) (t : HoldsString is_text r s)
    → (s ≡ []) × (heads_in is_text r.len s r.bytes t ≡ break_heads r.len)

-- There was no piece to return, and now neither a piece nor a break is left.
pub record LendsNoPiece (is_text : Bool) (old new : Region) : Type 0 where
  pub none : IsAtEnd is_text old
  pub ended : new ≡ record { len = Some 0; bytes = [] }

abbrev pub LendsNext : Bool → Region → Region → Option (List ℕ) → Type 0
LendsNext is_text old new (Some piece) = LendsPiece is_text old new piece
LendsNext is_text old new None = LendsNoPiece is_text old new

-- The cursor doesn't move. It counts one head if the rest is in chunks: the next chunk's head, or the break.
pub record LooksAhead (r : Region) (old new : CursorState) : Type 0 where
  pub heads : new.heads ≡ raised old.heads (break_heads r.len)
  pub place : new.place ≡ old.place
  pub nodes : new.nodes ≡ old.nodes
  pub bytes : new.bytes ≡ old.bytes

-- ---- the first of the chunks that are left

abbrev pub in_chunks : List ℕ → Region
in_chunks bytes = record { len = None; bytes = bytes }

-- The first chunk's content, and the bytes after that chunk; `None` if no chunk is left.
abbrev pub SplitsChunk : Bool → List ℕ → Option (List ℕ × List ℕ) → Type 0
SplitsChunk is_text region (Some p) = LendsPiece is_text (in_chunks region) (in_chunks p.1) p.0
SplitsChunk is_text region None = IsAtEnd is_text (in_chunks region)

-- ---- a loop over the pieces

-- The pieces that were returned join to `bytes`: the string is `bytes` followed by the rest, and every head of
-- the string was counted but those in the rest.
pub record HasLent (is_text : Bool) (whole left : Region) (old now : CursorState) (bytes s : List ℕ)
    (t : HoldsString is_text whole s) : Type 0 where
  pub rest : List ℕ
  pub tells : HoldsString is_text left rest
  pub joined : s ≡ bytes ++ rest
  pub counted : ℕ
  pub heads_are : heads_in is_text whole.len s whole.bytes t
      ≡ counted + heads_in is_text left.len rest left.bytes tells
  pub heads : now.heads ≡ raised old.heads counted

-- The invariant of a loop over the pieces of a string.
pub record LendsUpTo (is_text : Bool) (whole left : Region) (old now : CursorState) (bytes : List ℕ) : Type 0 where
  pub lent : (s : List ℕ) (t : HoldsString is_text whole s) → HasLent is_text whole left old now bytes s t
  pub place : now.place ≡ old.place
  pub nodes : now.nodes ≡ old.nodes
  pub same : now.bytes ≡ old.bytes
