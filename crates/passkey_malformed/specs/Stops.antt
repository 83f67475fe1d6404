-- Where and why bytes don't begin with a well-formed data item (RFC 8949, section 3 and appendix F). `rest` are the
-- bytes from there on.
use Rattle.std.specs.Prelude.{◌≡◌, ◌⊎◌, ℕ, suc, ◌*◌, ◌/◌, ◌%◌, ◌<◌, ◌≤◌, ◌==◌, ◌&&◌, ◌||◌, nat_lt, Bool, true, false, List, [], ◌∷◌, ◌++◌, length, take, drop, Option, Some, None, if◌then◌else◌}
use Rattle.std.specs.Int.{byte_len}
use Rattle.std.specs.Str.{IsUtf8}
use Rattle.passkey_cbor.specs.Item.{Item}
use Rattle.passkey_cbor.specs.Languages.{Language, Each}
use Rattle.passkey_cbor.specs.Encoding.{Definite}
use Rattle.passkey_cbor.specs.EncodedAt.{goes_on}
use Rattle.passkey_cbor.specs.Heads.{Size, information, width, break}
use Rattle.passkey_cbor.specs.HeadEncoding.{IsEncodingOfHead}
use Rattle.passkey_cbor.specs.Inside.{Within, Content, IsAllowed, major_type}
use Rattle.passkey_cbor.specs.LeadingItem.{max_depth, IsLeadingItem, HasNoLeadingItem}
use Rattle.passkey_cbor.specs.Lent.{string_head}
use Rattle.passkey_cbor.specs.Reading.{chunk_len}
use Rattle.passkey_cbor.specs.declared.head.Head.{Head}
use Rattle.passkey_cbor.specs.declared.head.Head.TheVariants as head
use Rattle.passkey_malformed.specs.declared.why.Malformed.{Malformed}
use Rattle.passkey_malformed.specs.declared.why.Why.{Why}
use Rattle.passkey_malformed.specs.declared.why.Why.TheVariants as reason

-- ---- what is there

-- The bytes begin with some of the language, and these follow.
pub record Begins (P : Language) (bytes rest : List ℕ) : Type 0 where
  pub text : List ℕ
  pub encoded : P text
  pub parts : bytes ≡ text ++ rest

-- a data item of at most this many levels
abbrev pub ItemLeads : ℕ → List ℕ → List ℕ → Type 0
ItemLeads levels bytes rest = (x : Item) × Begins (Within levels x) bytes rest

-- what follows the head of a string of this length
abbrev pub StringLeads : Bool → Option ℕ → List ℕ → List ℕ → Type 0
StringLeads is_text len bytes rest = (s : List ℕ) × Begins (Content is_text len s) bytes rest

-- ---- heads

-- The bytes don't begin with a head.
abbrev pub HasNoHead : List ℕ → Type 0
HasNoHead bytes = (h : Head) (text rest : List ℕ) → IsEncodingOfHead h text → bytes ≡ text ++ rest → ⊥

-- The bytes end within a head: there are none, or fewer follow the initial byte than it says.
abbrev pub IsCutHead : List ℕ → Type 0
IsCutHead [] = Unit {0}
IsCutHead (b ∷ bytes) = (s : Size) × ((b % 32 ≡ information s) × (length bytes < byte_len (width s)))

-- The additional information is reserved: 28 to 30, or 31 for an integer or a tag number.
abbrev pub IsReserved : List ℕ → Type 0
IsReserved [] = ⊥
IsReserved (b ∷ bytes) = (28 ≤ b % 32) × (b % 32 ≡ 31 → (b / 32 ≤ 1) ⊎ (b / 32 ≡ 6))

-- a simple value below 32 in two bytes
abbrev pub IsBadSimple : List ℕ → Type 0
IsBadSimple [] = ⊥
IsBadSimple (b ∷ []) = ⊥
IsBadSimple (b ∷ n ∷ bytes) = (b ≡ 248) × (n < 32)

-- No head begins the bytes, for this reason.
abbrev pub NoHead : List ℕ → Why → List ℕ → Type 0
NoHead bytes reason.CutOff rest = IsCutHead bytes × (rest ≡ [])
NoHead bytes reason.ReservedArgument rest = IsReserved bytes × (rest ≡ bytes)
NoHead bytes reason.BadSimple rest = IsBadSimple bytes × (rest ≡ bytes)
NoHead bytes reason.StrayBreak rest = ⊥
NoHead bytes reason.BadChunk rest = ⊥
NoHead bytes reason.NotUtf8 rest = ⊥
NoHead bytes reason.TooDeep rest = ⊥
NoHead bytes reason.OddMap rest = ⊥

-- ---- strings

-- The bytes don't begin with the content of a string, or of a chunk, of n bytes: there are fewer, or the text isn't
-- UTF-8.
abbrev pub NoPiece : Bool → ℕ → List ℕ → Why → List ℕ → Type 0
NoPiece is_text n bytes reason.CutOff rest = (length bytes < n) × (rest ≡ [])
NoPiece is_text n bytes reason.NotUtf8 rest =
    (is_text ≡ true) × (n ≤ length bytes) × (IsUtf8 (take n bytes) → ⊥) × (rest ≡ bytes)
NoPiece is_text n bytes reason.ReservedArgument rest = ⊥
NoPiece is_text n bytes reason.StrayBreak rest = ⊥
NoPiece is_text n bytes reason.BadChunk rest = ⊥
NoPiece is_text n bytes reason.TooDeep rest = ⊥
NoPiece is_text n bytes reason.OddMap rest = ⊥
NoPiece is_text n bytes reason.BadSimple rest = ⊥

-- After a head, `following` doesn't go on with the content of a chunk, whose length is known if it is a chunk's head.
abbrev pub NoChunkAfter : Bool → Option ℕ → List ℕ → List ℕ → Why → List ℕ → Type 0
NoChunkAfter is_text (Some n) here following why rest = NoPiece is_text n following why rest
NoChunkAfter is_text None here following why rest = (why ≡ reason.BadChunk) × (rest ≡ here)

-- The bytes begin neither with a chunk nor with a break.
pub data NoChunk (is_text : Bool) (here : List ℕ) (why : Why) (rest : List ℕ) : Type 0 where
  no_head : NoHead here why rest → NoChunk is_text here why rest
  no_content : (h : Head) (following : List ℕ) → (h ≡ head.Break → ⊥) → Begins (IsEncodingOfHead h) here following
      → NoChunkAfter is_text (chunk_len is_text h) here following why rest → NoChunk is_text here why rest

-- whole chunks
abbrev pub Chunks : Bool → List (List ℕ) → Language
Chunks is_text = Each (Definite (IsAllowed is_text) (major_type is_text))

-- After whole chunks of a string, neither another one nor a break follows.
pub record StopsInChunks (is_text : Bool) (bytes : List ℕ) (why : Why) (rest : List ℕ) : Type 0 where
  pub chunks : List (List ℕ)
  pub here : List ℕ
  pub passed : Begins (Chunks is_text chunks) bytes here
  pub stop : NoChunk is_text here why rest

-- what follows the head of a string of this length
abbrev pub StopsInString : Bool → Option ℕ → List ℕ → Why → List ℕ → Type 0
StopsInString is_text (Some n) bytes why rest = NoPiece is_text n bytes why rest
StopsInString is_text None bytes why rest = StopsInChunks is_text bytes why rest

-- ---- arrays and maps

-- the head of an array, or of a map if the flag is true
abbrev pub list_head : Bool → Option ℕ → Head
list_head false len = head.Array len
list_head true len = head.Map len

-- how many data items an array or a map of n elements or pairs has
abbrev pub items_in : Bool → ℕ → ℕ
items_in false n = n
items_in true n = 2 * n

-- a value belongs after n data items of a map
abbrev pub awaits_value : Bool → ℕ → Bool
awaits_value is_map n = is_map && (n % 2 == 1)

-- another data item belongs to an array or a map of this length, after n data items, which `here` follows
abbrev pub wants : Bool → Option ℕ → ℕ → List ℕ → Bool
wants is_map (Some m) n here = nat_lt n (items_in is_map m)
wants is_map None n here = awaits_value is_map n || goes_on None here

-- what a break is where that data item belongs
abbrev pub break_in : Bool → Option ℕ → ℕ → Why
break_in is_map (Some m) n = reason.StrayBreak
break_in is_map None n = if awaits_value is_map n then reason.OddMap else reason.StrayBreak

-- No other belongs to it.
abbrev pub EndsList : Bool → Option ℕ → ℕ → List ℕ → List ℕ → Type 0
EndsList is_map (Some m) n here rest = (n ≡ items_in is_map m) × (rest ≡ here)
EndsList is_map None n here rest = (awaits_value is_map n ≡ false) × (here ≡ break ∷ rest)

-- Whole data items of at most this many levels, as many as the array or the map has, and the break if the length is
-- indefinite.
pub record ListLeads (is_map : Bool) (len : Option ℕ) (levels : ℕ) (bytes rest : List ℕ) : Type 0 where
  pub items : List Item
  pub here : List ℕ
  pub passed : Begins (Each (Within levels) items) bytes here
  pub ends : EndsList is_map len (length items) here rest

-- ---- data items

-- An array, a map or a tag is in as many as there may be.
pub record IsTooDeep (levels : ℕ) (bytes : List ℕ) (why : Why) (rest : List ℕ) : Type 0 where
  pub none_left : levels ≡ 0
  pub is : why ≡ reason.TooDeep
  pub there : rest ≡ bytes

-- the heads of arrays, maps and tags
abbrev pub Nests : Head → Type 0
Nests (head.Array len) = Unit {0}
Nests (head.Map len) = Unit {0}
Nests (head.Tag n) = Unit {0}
Nests _ = ⊥

-- Where a data item of at most `levels` levels belongs, the bytes go on with none, for this reason. A break there is
-- `at_break`. Each open array, map and tag around the place is one level fewer, and all before it is whole.
pub data Stops : ℕ → Why → List ℕ → Why → List ℕ → Type 0 where
  -- no head
  at_head : {levels : ℕ} {at_break why : Why} {bytes rest : List ℕ} → NoHead bytes why rest
      → Stops levels at_break bytes why rest
  -- a break
  at_stray : {levels : ℕ} {why : Why} {bytes : List ℕ} (following : List ℕ)
      → Begins (IsEncodingOfHead head.Break) bytes following → Stops levels why bytes why bytes
  -- the head of a string, and after it less than its content
  in_string : {levels : ℕ} {at_break why : Why} {bytes rest : List ℕ} (is_text : Bool) (len : Option ℕ)
      (following : List ℕ) → Begins (IsEncodingOfHead (string_head is_text len)) bytes following
      → StopsInString is_text len following why rest → Stops levels at_break bytes why rest
  -- the head of an array, a map or a tag, with no level left
  too_deep : {levels : ℕ} {at_break why : Why} {bytes rest : List ℕ} (h : Head) (following : List ℕ) → Nests h
      → Begins (IsEncodingOfHead h) bytes following → IsTooDeep levels bytes why rest
      → Stops levels at_break bytes why rest
  -- the head of an array or a map, whole data items after it, and a stop in the next one
  in_list : {levels inner : ℕ} {at_break why : Why} {bytes rest : List ℕ} (is_map : Bool) (len : Option ℕ)
      (following here : List ℕ) (items : List Item) → levels ≡ suc inner
      → Begins (IsEncodingOfHead (list_head is_map len)) bytes following
      → Begins (Each (Within inner) items) following here → wants is_map len (length items) here ≡ true
      → Stops inner (break_in is_map len (length items)) here why rest → Stops levels at_break bytes why rest
  -- a tag number, and a stop in its content
  in_tag : {levels inner : ℕ} {at_break why : Why} {bytes rest : List ℕ} (n : ℕ) (following : List ℕ)
      → levels ≡ suc inner → Begins (IsEncodingOfHead (head.Tag n)) bytes following
      → Stops inner reason.StrayBreak following why rest → Stops levels at_break bytes why rest

-- After the head of an array or a map, and whole data items in it, a stop in the next one.
pub record StopsInList (is_map : Bool) (len : Option ℕ) (levels : ℕ) (bytes : List ℕ) (why : Why) (rest : List ℕ) :
    Type 0 where
  pub items : List Item
  pub here : List ℕ
  pub passed : Begins (Each (Within levels) items) bytes here
  pub wanted : wants is_map len (length items) here ≡ true
  pub stop : Stops levels (break_in is_map len (length items)) here why rest

-- ---- the whole

abbrev pub HasLeadingItem : List ℕ → Type 0
HasLeadingItem bytes = (x : Item) × (len : ℕ) × IsLeadingItem bytes x len

-- There is no leading data item of at most 256 levels; the offset is where the bytes stop to begin with one, and this is
-- why.
pub record IsMalformed (bytes : List ℕ) (m : Malformed) : Type 0 where
  pub none : HasNoLeadingItem bytes
  pub within : m.offset ≤ length bytes
  pub stops : Stops max_depth reason.StrayBreak bytes m.why (drop m.offset bytes)
