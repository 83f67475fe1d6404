-- The result of decoding the next head (RFC 8949, section 3).
use Rattle.std.specs.Prelude.{◌≡◌, ℕ, ◌+◌, nat_lt, List, [], ◌∷◌, ◌++◌, length, if◌then◌else◌, Option, Some, None}
use Rattle.passkey_cbor.specs.HeadEncoding.{IsEncodingOfHead}
use Rattle.passkey_cbor.specs.CursorState.{CursorState, ahead, raised}
use Rattle.passkey_cbor.specs.declared.head.Head.{Head}

-- The cursor passed the next head, and counted it.
pub record PassesHead (old new : CursorState) (h : Head) : Type 0 where
  pub text : List ℕ
  pub encoded : IsEncodingOfHead h text
  pub parts : ahead old ≡ text ++ ahead new
  pub place : new.place ≡ old.place + length text
  pub heads : new.heads ≡ raised old.heads 1
  pub nodes : new.nodes ≡ old.nodes
  pub bytes : new.bytes ≡ old.bytes

-- No well-formed head follows; one head is counted all the same, and the cursor doesn't move.
pub record FindsNoHead (old new : CursorState) : Type 0 where
  pub none : (h : Head) (text rest : List ℕ) → IsEncodingOfHead h text → ahead old ≡ text ++ rest → ⊥
  pub place : new.place ≡ old.place
  pub heads : new.heads ≡ raised old.heads 1
  pub nodes : new.nodes ≡ old.nodes
  pub bytes : new.bytes ≡ old.bytes

abbrev pub FindsHead : CursorState → CursorState → Option Head → Type 0
FindsHead old new (Some h) = PassesHead old new h
FindsHead old new None = FindsNoHead old new

-- the unsigned integer with which the bytes begin, if it is below 24 and its head has one byte
abbrev pub small_number : List ℕ → Option ℕ
small_number [] = None
small_number (b ∷ bytes) = if nat_lt b 24 then Some b else None
