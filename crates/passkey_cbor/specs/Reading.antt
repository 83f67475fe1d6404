-- Decoding a data item from left to right. Public clauses describe items by their encodings instead, except for
-- a law's function (LeadingItemAt) and for what follows the head of an item (Inside).
use Rattle.std.specs.Prelude.{ℕ, zero, suc, pos, negsuc, List, [], ◌∷◌, length, Bool, true, false, nat_lt, ◌==◌, if◌then◌else◌, Option, Some, None}
use Rattle.std.specs.List.{concat}
use Rattle.std.specs.Str.{is_utf8}
use Rattle.passkey_cbor.specs.Item.{Item, number, byte_string, text_string, array, map, tagged, boolean, null, simple, float, items_of, pairs_of}
use Rattle.passkey_cbor.specs.HeadReading.{◌>>=◌, Read, take_at, head_at}
use Rattle.passkey_cbor.specs.declared.head.Head.{Head}
use Rattle.passkey_cbor.specs.declared.head.Head.TheVariants as head

-- decodes a value whose first head is decoded already
abbrev pub Reader : Type 0 → Type 0
Reader A = Head → List ℕ → Read A

abbrev pub start : {A : Type 0} → Reader A → List ℕ → Read A
start read bytes = do
  h ← head_at bytes
  read h.0 h.1

abbrev pub is_break : Head → Bool
is_break (head.Unsigned n) = false
is_break (head.Negative n) = false
is_break (head.Bytes len) = false
is_break (head.Text len) = false
is_break (head.Array len) = false
is_break (head.Map len) = false
is_break (head.Tag n) = false
is_break (head.Simple n) = false
is_break (head.Float f) = false
is_break head.Break = true

-- ---- lists: as many elements as are left, or, with indefinite length, up to a break

pub data Step : Type 0 where
  -- the list ends; the bytes after it
  end : List ℕ → Step
  -- how many elements are left after the next one, its first head, and the bytes after that head
  element : Option ℕ → Head → List ℕ → Step

unfoldable pub step_at : Option ℕ → List ℕ → Option Step
step_at (Some zero) bytes = Some (end bytes)
step_at (Some (suc n)) bytes = head_at bytes >>= λ h. Some (element (Some n) h.0 h.1)
step_at None bytes = head_at bytes >>= λ h. if is_break h.0 then Some (end h.1) else Some (element None h.0 h.1)

abbrev pub after_step : {A : Type 0} → Reader A → (Option ℕ → List ℕ → Read (List A)) → Step → Read (List A)
after_step read others (end rest) = Some ([], rest)
after_step read others (element left h rest) = do
  x ← read h rest
  xs ← others left x.1
  Some (x.0 ∷ xs.0, xs.1)

-- the fuel bounds the number of steps
unfoldable pub list_by : {A : Type 0} → Reader A → ℕ → Option ℕ → List ℕ → Read (List A)
list_by read zero left bytes = None
list_by read (suc fuel) left bytes = step_at left bytes >>= after_step read (list_by read fuel)

-- each element has at least one byte, so this fuel is enough
abbrev pub list_at : {A : Type 0} → Reader A → Option ℕ → List ℕ → Read (List A)
list_at read left bytes = list_by read (suc (length bytes)) left bytes

-- ---- strings

abbrev pub is_allowed : Bool → List ℕ → Bool
is_allowed false s = true
is_allowed true s = is_utf8 s

-- the first n bytes, which must be UTF-8 in a text string
unfoldable pub piece_at : Bool → ℕ → List ℕ → Read (List ℕ)
piece_at is_text n bytes = do
  t ← take_at n bytes
  if is_allowed is_text t.0 then Some t else None

-- the length of a chunk with this head; `None` if the head is no chunk's in this kind of string
abbrev pub chunk_len : Bool → Head → Option ℕ
chunk_len is_text (head.Unsigned n) = None
chunk_len is_text (head.Negative n) = None
chunk_len is_text (head.Bytes len) = if is_text then None else len
chunk_len is_text (head.Text len) = if is_text then len else None
chunk_len is_text (head.Array len) = None
chunk_len is_text (head.Map len) = None
chunk_len is_text (head.Tag n) = None
chunk_len is_text (head.Simple n) = None
chunk_len is_text (head.Float f) = None
chunk_len is_text head.Break = None

abbrev pub chunk : Bool → Reader (List ℕ)
chunk is_text h bytes = chunk_len is_text h >>= λ n. piece_at is_text n bytes

-- a string whose head is decoded already
unfoldable pub string_at : Bool → Option ℕ → List ℕ → Read (List ℕ)
string_at is_text (Some n) bytes = piece_at is_text n bytes
string_at is_text None bytes = do
  chunks ← list_at (chunk is_text) None bytes
  Some (concat chunks.0, chunks.1)

-- the length in the head of a string of this kind (`Some None`: indefinite length); `None` for any other head
abbrev pub string_len : Bool → Head → Option (Option ℕ)
string_len is_text (head.Unsigned n) = None
string_len is_text (head.Negative n) = None
string_len is_text (head.Bytes len) = if is_text then None else Some len
string_len is_text (head.Text len) = if is_text then Some len else None
string_len is_text (head.Array len) = None
string_len is_text (head.Map len) = None
string_len is_text (head.Tag n) = None
string_len is_text (head.Simple n) = None
string_len is_text (head.Float f) = None
string_len is_text head.Break = None

abbrev pub string_by : Bool → Reader (List ℕ)
string_by is_text h bytes = string_len is_text h >>= λ len. string_at is_text len bytes

-- ---- items

abbrev pub simple_item : ℕ → Item
simple_item n =
    if nat_lt n 20 then simple n
    else if n == 20 then boolean false
    else if n == 21 then boolean true
    else if nat_lt n 24 then null
    else simple n

-- two data items, where the first one's head is decoded already
abbrev pub pair_by : Reader Item → Reader (Item × Item)
pair_by read h bytes = do
  k ← read h bytes
  v ← start read k.1
  Some ((k.0, v.0), v.1)

-- `inner` decodes the items one level deeper; `None` if no deeper level is allowed
unfoldable pub item_by : Option (Reader Item) → Reader Item
item_by inner (head.Unsigned n) bytes = Some (number (pos n), bytes)
item_by inner (head.Negative n) bytes = Some (number (negsuc n), bytes)
item_by inner (head.Bytes len) bytes = string_at false len bytes >>= λ s. Some (byte_string s.0, s.1)
item_by inner (head.Text len) bytes = string_at true len bytes >>= λ s. Some (text_string s.0, s.1)
item_by inner (head.Array len) bytes =
    inner >>= λ read. list_at read len bytes >>= λ xs. Some (array (items_of xs.0), xs.1)
item_by inner (head.Map len) bytes =
    inner >>= λ read. list_at (pair_by read) len bytes >>= λ ps. Some (map (pairs_of ps.0), ps.1)
item_by inner (head.Tag n) bytes = inner >>= λ read. start read bytes >>= λ x. Some (tagged n x.0, x.1)
item_by inner (head.Simple n) bytes = Some (simple_item n, bytes)
item_by inner (head.Float f) bytes = Some (float f, bytes)
item_by inner head.Break bytes = None

-- a data item of at most this many levels
unfoldable pub item_within : ℕ → Reader Item
item_within zero = item_by None
item_within (suc levels) = item_by (Some (item_within levels))
