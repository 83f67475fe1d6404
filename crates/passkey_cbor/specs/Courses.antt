-- How decoding goes: the bytes after what is decoded, or the first fault, and how many heads are decoded up to there. So
-- the open arrays, maps and tags around a cursor are what is still to be decoded, the innermost one first.
use Rattle.std.specs.Prelude.{◌≡◌, ℕ, zero, suc, ◌+◌, ◌-◌, ◌<◌, List, get_or, Bool, true, false, Option, Some, None}
use Rattle.passkey_cbor.specs.HeadReading.{Read, head_at}
use Rattle.passkey_cbor.specs.Reading.{Reader, start, is_break, list_at, pair_by, item_within}
use Rattle.passkey_cbor.specs.HeadsDecoded.{Tally, start_heads, list_heads, pair_heads, item_heads}
use Rattle.passkey_cbor.specs.CursorState.{CursorState, ahead, raised, Passed, Stopped}
use Rattle.passkey_cbor.specs.HeadCount.{Spans}
use Rattle.passkey_cbor.specs.Steps.{HeadRead}
use Rattle.passkey_cbor.specs.declared.head.Head.{Head}
use Rattle.passkey_cbor.specs.declared.head.Head.TheVariants as head
use Rattle.passkey_cbor.specs.declared.skip.Open.{Open}
use Rattle.passkey_cbor.specs.declared.skip.Open.TheVariants as opens
use Rattle.passkey_cbor.specs.declared.skip.Part.{Part}
use Rattle.passkey_cbor.specs.declared.skip.Part.TheVariants as part

-- the bytes after what is decoded (`None`: decoding fails), and how many heads are decoded
pub record Course : Type 0 where
  pub rest : Option (List ℕ)
  pub heads : ℕ

-- heads that are decoded before
abbrev pub after_heads : ℕ → Course → Course
after_heads n c = record { rest = c.rest; heads = n + c.heads }

-- nothing more is decoded
abbrev pub over : List ℕ → Course
over bytes = record { rest = Some bytes; heads = 0 }

-- a fault after this many heads
abbrev pub fault : ℕ → Course
fault n = record { rest = None; heads = n }

abbrev pub resumed : Option (List ℕ) → ℕ → (List ℕ → Course) → Course
resumed None n others = fault n
resumed (Some rest) n others = after_heads n (others rest)

-- one after the other
infixl 10 ◌▸◌
abbrev pub ◌▸◌ : Course → (List ℕ → Course) → Course
c ▸ others = resumed c.rest c.heads others

abbrev pub rest_of : {A : Type 0} → Read A → Option (List ℕ)
rest_of None = None
rest_of (Some x) = Some x.1

-- ---- data items and lists

-- something whose first head is decoded already, from that head on
abbrev pub course_after : {A : Type 0} → Reader A → Tally → Head → List ℕ → Course
course_after read more h bytes = record { rest = rest_of (read h bytes); heads = more h bytes }

abbrev pub course_of : {A : Type 0} → Reader A → Tally → List ℕ → Course
course_of read more bytes = record { rest = rest_of (start read bytes); heads = start_heads more bytes }

abbrev pub list_course : {A : Type 0} → Reader A → Tally → Option ℕ → List ℕ → Course
list_course read more left bytes = record { rest = rest_of (list_at read left bytes); heads = list_heads read more left bytes }

-- a data item of at most this many levels
unfoldable pub item_course : ℕ → List ℕ → Course
item_course levels bytes = course_of (item_within levels) (item_heads levels) bytes

-- the rest of a data item of at most this many levels, whose head is decoded already
unfoldable pub item_after : ℕ → Head → List ℕ → Course
item_after levels h bytes = course_after (item_within levels) (item_heads levels) h bytes

-- the data items of a list, and the pairs, where each data item has at most this many levels
unfoldable pub items_course : ℕ → Option ℕ → List ℕ → Course
items_course levels left bytes = list_course (item_within levels) (item_heads levels) left bytes

unfoldable pub pairs_course : ℕ → Option ℕ → List ℕ → Course
pairs_course levels left bytes =
    list_course (pair_by (item_within levels)) (pair_heads (item_within levels) (item_heads levels)) left bytes

-- what is left of an open array, map or tag, where the data items in it have at most this many levels
unfoldable pub open_course : ℕ → Open → List ℕ → Course
open_course levels (opens.Items n) bytes = items_course levels (Some n) bytes
open_course levels opens.ItemsToBreak bytes = items_course levels None bytes
open_course levels opens.PairsToBreak bytes = pairs_course levels None bytes
open_course levels opens.ValueToBreak bytes = item_course levels bytes ▸ pairs_course levels None

-- what is left of the first so many of these, each one in the one before it; the last one comes first
unfoldable pub opened_course : ℕ → List Open → ℕ → List ℕ → Course
opened_course levels opened zero bytes = over bytes
opened_course levels opened (suc n) bytes =
    open_course (levels - n) (get_or opened n (opens.Items 0)) bytes ▸ opened_course levels opened n

-- ---- what a cursor passed

-- The cursor passed a part, which has this many heads, and the rest comes after it.
pub record Advances (whole : Course) (others : List ℕ → Course) (old new : CursorState) : Type 0 where
  pub number : ℕ
  pub decoded : new.heads ≡ raised old.heads number
  pub same : whole ≡ after_heads number (others (ahead new))
  pub passed : Passed old new
  pub spans : Spans 0 old new

-- The cursor stopped at a fault.
pub record Fails (whole : Course) (old new : CursorState) : Type 0 where
  pub number : ℕ
  pub decoded : new.heads ≡ raised old.heads number
  pub same : whole ≡ fault number
  pub stopped : Stopped old new

-- The cursor passed the whole, or stopped at a fault.
abbrev pub Takes : Course → CursorState → CursorState → Bool → Type 0
Takes whole old new true = Advances whole over old new
Takes whole old new false = Fails whole old new

-- ---- the next part of a list

abbrev pub begins_break : Read Head → Bool
begins_break None = false
begins_break (Some h) = is_break h.0

-- The cursor passed a data item.
pub record PassesItem (old new : CursorState) : Type 0 where
  pub advances : (levels : ℕ) → Advances (item_course levels (ahead old)) over old new
  pub further : old.place < new.place

-- The cursor passed the head of a data item with others in it; with no level left, this is a fault.
pub record BeginsItem (inner : Open) (old new : CursorState) : Type 0 where
  pub flat : Fails (item_course 0 (ahead old)) old new
  pub deeper : (levels : ℕ) → Advances (item_course (suc levels) (ahead old)) (open_course levels inner) old new
  pub further : old.place < new.place

-- the next data item, where no break is allowed
abbrev pub IsInnerPart : CursorState → CursorState → Part → Type 0
IsInnerPart old new part.Malformed = (levels : ℕ) → Fails (item_course levels (ahead old)) old new
IsInnerPart old new part.End = ⊥
IsInnerPart old new part.Item = PassesItem old new
IsInnerPart old new (part.Head inner) = BeginsItem inner old new

abbrev pub NoBreak : CursorState → Type 0
NoBreak w = begins_break (head_at (ahead w)) ≡ false

-- the next data item, or a break
abbrev pub IsPart : CursorState → CursorState → Part → Type 0
IsPart old new part.Malformed = NoBreak old × ((levels : ℕ) → Fails (item_course levels (ahead old)) old new)
IsPart old new part.End = HeadRead old new head.Break
IsPart old new part.Item = NoBreak old × PassesItem old new
IsPart old new (part.Head inner) = NoBreak old × BeginsItem inner old new

-- The cursor passed data items of an open list.
pub record PassesElement (before after : Open) (old new : CursorState) : Type 0 where
  pub advances : (levels : ℕ)
      → Advances (open_course levels before (ahead old)) (open_course levels after) old new
  pub further : old.place < new.place

-- The cursor passed data items of an open list, and the head of the next one, which has others in it.
pub record BeginsElement (before after inner : Open) (old new : CursorState) : Type 0 where
  pub flat : Fails (open_course 0 before (ahead old)) old new
  pub deeper : (levels : ℕ) → Advances (open_course (suc levels) before (ahead old))
      (λ rest. open_course levels inner rest ▸ open_course (suc levels) after) old new
  pub further : old.place < new.place

-- the next data items of an open list, up to one with others in it, or the list's end
abbrev pub IsPartOf : Open → Open → CursorState → CursorState → Part → Type 0
IsPartOf before after old new part.Malformed = (levels : ℕ) → Fails (open_course levels before (ahead old)) old new
IsPartOf before after old new part.End = (levels : ℕ) → Advances (open_course levels before (ahead old)) over old new
IsPartOf before after old new part.Item = PassesElement before after old new
IsPartOf before after old new (part.Head inner) = BeginsElement before after inner old new
