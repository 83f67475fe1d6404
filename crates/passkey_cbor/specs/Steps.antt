-- The results of a cursor's calls, in terms of decoding the bytes ahead.
use Rattle.std.specs.Prelude.{◌≡◌, ◌⊎◌, ℕ, ◌+◌, ◌<◌, ◌≤◌, List, [], ◌++◌, length, Bool, true, false, Option, Some, None, unwrap_or, Result, Ok, Err}
use Rattle.passkey_cbor.specs.Item.{Item}
use Rattle.passkey_cbor.specs.HeadReading.{Read, head_at}
use Rattle.passkey_cbor.specs.Reading.{start, end, element, step_at, is_allowed, chunk, list_at, string_at, string_by, item_within}
use Rattle.passkey_cbor.specs.LeadingItem.{max_depth}
use Rattle.passkey_cbor.specs.CursorState.{CursorState, ahead, raised, break_heads, Passed, Stopped}
use Rattle.passkey_cbor.specs.HeadCount.{Spans}
use Rattle.passkey_cbor.specs.HeadsDecoded.{string_decoded}
use Rattle.passkey_cbor.specs.Inside.{Content}
use Rattle.passkey_cbor.specs.Lent.{Region, PassesString}
use Rattle.passkey_cbor.specs.Names.{place_of, heads_until}
use Rattle.passkey_cbor.specs.declared.head.Head.{Head}
use Rattle.passkey_cbor.specs.declared.head.Head.TheVariants as head
use Rattle.passkey_cbor.specs.declared.cursor.Next.{Next}
use Rattle.passkey_cbor.specs.declared.cursor.Next.TheVariants as next

-- ---- one head

-- a simple value isn't between 24 and 31
abbrev pub IsHead : Head → Type 0
IsHead (head.Unsigned n) = Unit {0}
IsHead (head.Negative n) = Unit {0}
IsHead (head.Bytes len) = Unit {0}
IsHead (head.Text len) = Unit {0}
IsHead (head.Array len) = Unit {0}
IsHead (head.Map len) = Unit {0}
IsHead (head.Tag n) = Unit {0}
IsHead (head.Simple n) = (n < 24) ⊎ (32 ≤ n)
IsHead (head.Float f) = Unit {0}
IsHead head.Break = Unit {0}

pub record HeadRead (old new : CursorState) (h : Head) : Type 0 where
  pub reads : head_at (ahead old) ≡ Some (h, ahead new)
  pub passed : Passed old new
  pub counted : new.heads ≡ raised old.heads 1
  pub further : old.place < new.place
  pub well_formed : IsHead h

pub record NoHead {A : Type 0} (read : Option A) (old new : CursorState) : Type 0 where
  pub reads : read ≡ None
  pub stopped : Stopped old new

-- the next head was decoded, or no well-formed head follows
abbrev pub ReadsHead : CursorState → CursorState → Option Head → Type 0
ReadsHead old new (Some h) = HeadRead old new h
ReadsHead old new None = NoHead (head_at (ahead old)) old new

-- ---- one step of a list

pub record ElementRead (left after : Option ℕ) (old new : CursorState) (h : Head) : Type 0 where
  pub reads : step_at left (ahead old) ≡ Some (element after h (ahead new))
  pub passed : Passed old new
  pub counted : new.heads ≡ raised old.heads 1
  pub further : old.place < new.place
  pub well_formed : IsHead h

pub record EndRead (left : Option ℕ) (old new : CursorState) : Type 0 where
  pub reads : step_at left (ahead old) ≡ Some (end (ahead new))
  pub passed : Passed old new
  pub counted : new.heads ≡ raised old.heads (break_heads left)

abbrev pub ReadsStep : Option ℕ → Option ℕ → CursorState → CursorState → Next → Type 0
ReadsStep left after old new (next.Element h) = ElementRead left after old new h
ReadsStep left after old new next.End = EndRead left old new
ReadsStep left after old new next.Malformed = NoHead (step_at left (ahead old)) old new

-- ---- the bytes of a string, or of a chunk

pub record PieceRead (is_text : Bool) (read : Read (List ℕ)) (old new : CursorState) (s : List ℕ) : Type 0 where
  pub reads : read ≡ Some (s, ahead new)
  pub passed : Passed old new
  pub uncounted : new.heads ≡ old.heads
  pub allowed_text : is_allowed is_text s ≡ true

abbrev pub ReadsPiece : Bool → Read (List ℕ) → CursorState → CursorState → Option (List ℕ) → Type 0
ReadsPiece is_text read old new (Some s) = PieceRead is_text read old new s
ReadsPiece is_text read old new None = NoHead read old new

-- ---- skipping what is decoded

-- `content`: how many bytes of a string's content the cursor passes before the next head
pub record PassesOver {A : Type 0} (content : ℕ) (read : Read A) (old new : CursorState) : Type 0 where
  pub value : A
  pub reads : read ≡ Some (value, ahead new)
  pub passed : Passed old new
  pub spans : Spans content old new

-- The cursor passed what was decoded, and counted its heads; or decoding failed, and it stopped.
abbrev pub Skips : {A : Type 0} → ℕ → Read A → CursorState → CursorState → Bool → Type 0
Skips content read old new true = PassesOver content read old new
Skips content read old new false = NoHead read old new

-- ---- borrowed strings

-- the bytes after a string's head
pub record RegionRead (is_text : Bool) (len : Option ℕ) (old new : CursorState) (region : List ℕ) : Type 0 where
  pub content : List ℕ
  pub tells : Content is_text len content region
  pub parts : ahead old ≡ region ++ ahead new
  pub passed : Passed old new
  pub spans : Spans (unwrap_or len 0) old new

abbrev pub ReadsRegion : Bool → Option ℕ → CursorState → CursorState → Option (List ℕ) → Type 0
ReadsRegion is_text len old new (Some region) = RegionRead is_text len old new region
ReadsRegion is_text len old new None = NoHead (string_at is_text len (ahead old)) old new

-- the index of the first of the names that equals the string that the chunks ahead join to
abbrev pub AreSought : Bool → List (List ℕ) → CursorState → Option ℕ → Type 0
AreSought is_text names old place = (s rest : List ℕ) → string_at is_text None (ahead old) ≡ Some (s, rest)
    → place ≡ place_of s names

-- The decoded string has n bytes.
abbrev pub IsLengthOf : Read (List ℕ) → ℕ → Type 0
IsLengthOf read n = (s rest : List ℕ) → read ≡ Some (s, rest) → length s ≡ n

-- The head of every chunk ahead was counted, and the break.
abbrev pub CountsAll : Bool → CursorState → CursorState → Type 0
CountsAll is_text old new = (chunks : List (List ℕ)) (rest : List ℕ) → list_at (chunk is_text) None (ahead old)
    ≡ Some (chunks, rest) → new.heads ≡ raised old.heads (length chunks + 1)

-- At least one head was counted, and at most those of the chunks and the break.
pub record CountsSome (is_text : Bool) (old new : CursorState) : Type 0 where
  pub least : raised old.heads 1 ≤ new.heads
  pub heads : (chunks : List (List ℕ)) (rest : List ℕ)
      → list_at (chunk is_text) None (ahead old) ≡ Some (chunks, rest) → new.heads ≤ old.heads + length chunks + 1

-- All of them if the chunks were joined, and some if they weren't.
abbrev pub CountsChunks : {T E : Type 0} → Bool → CursorState → CursorState → Result T E → Type 0
CountsChunks is_text old new (Ok v) = CountsAll is_text old new
CountsChunks is_text old new (Err e) = CountsSome is_text old new

-- The heads of the chunks ahead were counted until no name begins with what was joined so far.
abbrev pub CountsSought : Bool → List (List ℕ) → CursorState → CursorState → Type 0
CountsSought is_text names old new = (chunks : List (List ℕ)) (rest : List ℕ) → list_at (chunk is_text) None
    (ahead old) ≡ Some (chunks, rest) → new.heads ≡ raised old.heads (heads_until names [] chunks)

-- No string of this kind was decoded; if another data item leads, only its head was decoded.
pub record NoStringRead (is_text : Bool) (old new : CursorState) : Type 0 where
  pub no_string : NoHead (start (string_by is_text) (ahead old)) old new
  pub decoded : new.heads ≡ raised old.heads (string_decoded is_text (ahead old))
  pub least : raised old.heads 1 ≤ new.heads
  pub one : (x : Item) (rest : List ℕ) → start (item_within max_depth) (ahead old) ≡ Some (x, rest)
      → new.heads ≡ raised old.heads 1

-- a string with its head
abbrev pub ReadsString : Bool → CursorState → CursorState → Option Region → Type 0
ReadsString is_text old new (Some r) = PassesString is_text old new r
ReadsString is_text old new None = NoStringRead is_text old new
