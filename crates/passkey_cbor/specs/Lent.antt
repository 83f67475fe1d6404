-- Strings that a cursor passes and borrows: of definite length, or in chunks (RFC 8949, section 3.2.3).
use Rattle.std.specs.Prelude.{◌≡◌, ◌≢◌, ◌↔◌, ℕ, ◌+◌, ◌<◌, ◌≤◌, ◌==◌, ◌&&◌, nat_lt, List, [], ◌∷◌, length, take, Bool, true, false, Option, Some, None, option_map, Result, Ok, Err, IsTrue}
use Rattle.std.specs.Str.{bytes_eq}
use Rattle.passkey_cbor.specs.Item.{Item, byte_string, text_string}
use Rattle.passkey_cbor.specs.Languages.{Is, Then}
use Rattle.passkey_cbor.specs.LeadingItem.{IsLeadingItem}
use Rattle.passkey_cbor.specs.HeadEncoding.{IsEncodingOfHead}
use Rattle.passkey_cbor.specs.Inside.{Content}
use Rattle.passkey_cbor.specs.EncodedAt.{IsEncodedAt}
use Rattle.passkey_cbor.specs.CursorState.{CursorState, ahead, raised, break_heads, LooksOnce}
use Rattle.passkey_cbor.specs.HeadCount.{AreHeads, heads_of, heads_between}
use Rattle.passkey_cbor.specs.HeadsDecoded.{string_decoded}
use Rattle.passkey_cbor.specs.declared.head.Head.{Head}
use Rattle.passkey_cbor.specs.declared.head.Head.TheVariants as head

-- a text string if the flag is true, and else a byte string
abbrev pub string_item : Bool → List ℕ → Item
string_item false = byte_string
string_item true = text_string

abbrev pub string_head : Bool → Option ℕ → Head
string_head false len = head.Bytes len
string_head true len = head.Text len

-- What contracts see of a borrowed string: the length in its head, and the bytes after the head.
pub record Region : Type 0 where
  pub len : Option ℕ
  pub bytes : List ℕ

-- The region holds the string s.
abbrev pub HoldsString : Bool → Region → List ℕ → Type 0
HoldsString is_text r s = Content is_text r.len s r.bytes

-- What holds of every region: it holds a string.
abbrev pub IsRegion : Bool → Region → Type 0
IsRegion is_text r = (s : List ℕ) × HoldsString is_text r s

-- ---- by the bytes ahead

-- The leading data item is a string of this kind; the cursor passed it, and returns the bytes after its head.
-- It counted each of the string's heads: at least one, and at most one for each of the string's bytes.
pub record PassesString (is_text : Bool) (old new : CursorState) (r : Region) : Type 0 where
  pub content : List ℕ
  pub len : ℕ
  pub front : IsLeadingItem (ahead old) (string_item is_text content) len
  pub headed : Then (IsEncodingOfHead (string_head is_text r.len)) (Is r.bytes) (take len (ahead old))
  pub tells : HoldsString is_text r content
  pub place : new.place ≡ old.place + len
  pub all_heads : AreHeads (heads_of (take len (ahead old))) (take len (ahead old))
  pub counted : new.heads ≡ raised old.heads (heads_of (take len (ahead old)))
  pub least : raised old.heads 1 ≤ new.heads
  pub heads : new.heads ≤ old.heads + len
  pub nodes : new.nodes ≡ old.nodes
  pub bytes : new.bytes ≡ old.bytes

-- The leading data item, if there is one, is no string of this kind, and the cursor doesn't move. It counts each
-- head that was decoded: one if there is a leading data item; else those up to the fault, at least one, and at most
-- one more than there are bytes ahead.
pub record FindsNoString (is_text : Bool) (old new : CursorState) : Type 0 where
  pub none : (s : List ℕ) (len : ℕ) → IsLeadingItem (ahead old) (string_item is_text s) len → ⊥
  pub place : new.place ≡ old.place
  pub one : (x : Item) (len : ℕ) → IsLeadingItem (ahead old) x len → new.heads ≡ raised old.heads 1
  pub decoded : new.heads ≡ raised old.heads (string_decoded is_text (ahead old))
  pub least : raised old.heads 1 ≤ new.heads
  pub heads : new.heads ≤ old.heads + length (ahead old) + 1
  pub nodes : new.nodes ≡ old.nodes
  pub bytes : new.bytes ≡ old.bytes

abbrev pub LendsString : Bool → CursorState → CursorState → Option Region → Type 0
LendsString is_text old new (Some r) = PassesString is_text old new r
LendsString is_text old new None = FindsNoString is_text old new

-- ---- by the data item that is encoded at the cursor

pub record Lends (is_text : Bool) (s : List ℕ) (to : ℕ) (old new : CursorState) (r : Region) : Type 0 where
  pub tells : HoldsString is_text r s
  pub place : new.place ≡ to
  pub counted : new.heads ≡ raised old.heads (heads_between old.bytes old.place to)
  pub least : raised old.heads 1 ≤ new.heads
  pub heads : new.heads + old.place ≤ old.heads + to
  pub nodes : new.nodes ≡ old.nodes
  pub bytes : new.bytes ≡ old.bytes

-- If a string of this kind is encoded at the cursor, it is returned; if another data item is, nothing is, and the
-- cursor doesn't move.
abbrev pub LendsFrom : Bool → Item → ℕ → CursorState → CursorState → Option Region → Type 0
LendsFrom is_text x to old new (Some r) =
    (s : List ℕ) × ((x ≡ string_item is_text s) × Lends is_text s to old new r)
LendsFrom is_text x to old new None = ((s : List ℕ) → x ≡ string_item is_text s → ⊥) × LooksOnce old new

abbrev pub LendsEncoded : Bool → CursorState → CursorState → Option Region → Type 0
LendsEncoded is_text old new found = (x : Item) (to : ℕ) → IsEncodedAt x old.bytes old.place to
    → LendsFrom is_text x to old new found

-- ---- one text

-- whether the bytes begin with this text string, of fewer than 24 bytes, whose head then has one byte
abbrev pub begins_text : List ℕ → List ℕ → Bool
begins_text s [] = false
begins_text s (b ∷ bytes) = nat_lt (length s) 24 && (b == 96 + length s) && bytes_eq (take (length s) bytes) s

-- The cursor passed the text string, or it doesn't move, and counts nothing.
abbrev pub PassesText : List ℕ → CursorState → CursorState → Bool → Type 0
PassesText s old new true = PassesString true old new (record { len = Some (length s); bytes = s })
PassesText s old new false = new ≡ old

-- `Some` of the string's bytes if its head has a length, and else `None`.
abbrev pub LentWhole : Region → Option (List ℕ) → Type 0
LentWhole r lent = lent ≡ option_map (λ n. r.bytes) r.len

-- ---- decoding the chunks of a borrowed string again

-- the number of heads in a region: one for each chunk, and the break; none if the length is definite
abbrev pub heads_in : (is_text : Bool) (len : Option ℕ) (s bytes : List ℕ) → Content is_text len s bytes → ℕ
heads_in is_text (Some n) s bytes c = 0
heads_in is_text None s bytes c = length c.first.0 + 1

-- The cursor doesn't move, and counts every head in the region.
pub record LooksAtAll (is_text : Bool) (r : Region) (old new : CursorState) : Type 0 where
  pub heads : (s : List ℕ) (t : HoldsString is_text r s)
      → new.heads ≡ raised old.heads (heads_in is_text r.len s r.bytes t)
  pub place : new.place ≡ old.place
  pub nodes : new.nodes ≡ old.nodes
  pub bytes : new.bytes ≡ old.bytes

-- The cursor doesn't move, and counts some of the heads in the region, at least one if there are any.
pub record LooksAtSome (is_text : Bool) (r : Region) (old new : CursorState) : Type 0 where
  pub least : raised old.heads (break_heads r.len) ≤ new.heads
  pub heads : (s : List ℕ) (t : HoldsString is_text r s) → new.heads ≤ old.heads + heads_in is_text r.len s r.bytes t
  pub place : new.place ≡ old.place
  pub nodes : new.nodes ≡ old.nodes
  pub bytes : new.bytes ≡ old.bytes

-- A copy counts all of them; if memory ran out, some.
abbrev pub LooksToCopy : {T E : Type 0} → Bool → Region → CursorState → CursorState → Result T E → Type 0
LooksToCopy is_text r old new (Ok copy) = LooksAtAll is_text r old new
LooksToCopy is_text r old new (Err e) = LooksAtSome is_text r old new

-- Whether the string equals these bytes.
abbrev pub IsNamed : Bool → Region → List ℕ → Bool → Type 0
IsNamed is_text r name equal = (s : List ℕ) → HoldsString is_text r s → (IsTrue equal ↔ (s ≡ name))

-- A copy of the string; or out of memory, which can't happen for an empty string.
abbrev pub Copies : {T E : Type 0} → (T → List ℕ) → Bool → Region → Result T E → Type 0
Copies view is_text r (Ok copy) = (s : List ℕ) → HoldsString is_text r s → view copy ≡ s
Copies view is_text r (Err e) = (s : List ℕ) → HoldsString is_text r s → 0 < length s

-- ---- copying a byte string into a slice

-- the string has this many bytes
abbrev pub IsSized : Bool → Region → ℕ → Type 0
IsSized is_text r size = (s : List ℕ) → HoldsString is_text r s → length s ≡ size

-- The slice now holds the string; or the string has another length, and the slice is unchanged.
abbrev pub Fills : Region → List ℕ → List ℕ → Bool → Type 0
Fills r old new true = HoldsString false r new
Fills r old new false = ((s : List ℕ) → HoldsString false r s → length s ≢ length old) × (new ≡ old)

-- Filling the slice counts every head; if the lengths differ, no head is counted.
abbrev pub LooksToFill : Region → CursorState → CursorState → Bool → Type 0
LooksToFill r old new true = LooksAtAll false r old new
LooksToFill r old new false = new ≡ old
