-- How many heads are decoded from left to right, up to the end of what is decoded or to its first fault. A head
-- that isn't well formed is counted, too.
use Rattle.std.specs.Prelude.{ℕ, zero, suc, ◌+◌, List, length, Bool, true, false, Option, Some, None}
use Rattle.passkey_cbor.specs.Item.{Item}
use Rattle.passkey_cbor.specs.HeadReading.{Read, head_at}
use Rattle.passkey_cbor.specs.Reading.{Reader, Step, end, element, step_at, chunk, string_len, pair_by, item_within}
use Rattle.passkey_cbor.specs.LeadingItem.{max_depth}
use Rattle.passkey_cbor.specs.CursorState.{break_heads}
use Rattle.passkey_cbor.specs.declared.head.Head.{Head}
use Rattle.passkey_cbor.specs.declared.head.Head.TheVariants as head

-- how many heads are decoded of something whose first head is decoded already
abbrev pub Tally : Type 0
Tally = Head → List ℕ → ℕ

-- what follows is decoded only if this was
abbrev pub then_heads : {A : Type 0} → Read A → (List ℕ → ℕ) → ℕ
then_heads None others = 0
then_heads (Some x) others = others x.1

abbrev pub begun_heads : Tally → Read Head → ℕ
begun_heads more None = 1
begun_heads more (Some h) = suc (more h.0 h.1)

abbrev pub start_heads : Tally → List ℕ → ℕ
start_heads more bytes = begun_heads more (head_at bytes)

-- ---- lists, as `list_at` decodes them

abbrev pub step_heads : {A : Type 0} → Reader A → Tally → (Option ℕ → List ℕ → ℕ) → Option ℕ → Option Step → ℕ
step_heads read more others left None = 1
step_heads read more others left (Some (end rest)) = break_heads left
step_heads read more others left (Some (element after h rest)) =
    suc (more h rest + then_heads (read h rest) (others after))

unfoldable pub list_heads_by : {A : Type 0} → Reader A → Tally → ℕ → Option ℕ → List ℕ → ℕ
list_heads_by read more zero left bytes = 0
list_heads_by read more (suc fuel) left bytes =
    step_heads read more (list_heads_by read more fuel) left (step_at left bytes)

abbrev pub list_heads : {A : Type 0} → Reader A → Tally → Option ℕ → List ℕ → ℕ
list_heads read more left bytes = list_heads_by read more (suc (length bytes)) left bytes

-- ---- strings: a chunk has one head

abbrev pub chunk_heads : Tally
chunk_heads h bytes = 0

abbrev pub string_heads : Bool → Option ℕ → List ℕ → ℕ
string_heads is_text (Some n) bytes = 0
string_heads is_text None bytes = list_heads (chunk is_text) chunk_heads None bytes

-- of a string of this kind; nothing more is decoded of anything else
abbrev pub rest_heads : Bool → Option (Option ℕ) → List ℕ → ℕ
rest_heads is_text None bytes = 0
rest_heads is_text (Some len) bytes = string_heads is_text len bytes

abbrev pub string_tally : Bool → Tally
string_tally is_text h bytes = rest_heads is_text (string_len is_text h) bytes

-- ---- items, as `item_within` decodes them

abbrev pub pair_heads : Reader Item → Tally → Tally
pair_heads read more h bytes = more h bytes + then_heads (read h bytes) (start_heads more)

-- the reader of the items one level deeper, and their heads; `None` if no deeper level is allowed
unfoldable pub item_heads_by : Option (Reader Item × Tally) → Tally
item_heads_by inner (head.Unsigned n) bytes = 0
item_heads_by inner (head.Negative n) bytes = 0
item_heads_by inner (head.Bytes len) bytes = string_heads false len bytes
item_heads_by inner (head.Text len) bytes = string_heads true len bytes
item_heads_by None (head.Array len) bytes = 0
item_heads_by (Some inner) (head.Array len) bytes = list_heads inner.0 inner.1 len bytes
item_heads_by None (head.Map len) bytes = 0
item_heads_by (Some inner) (head.Map len) bytes =
    list_heads (pair_by inner.0) (pair_heads inner.0 inner.1) len bytes
item_heads_by None (head.Tag n) bytes = 0
item_heads_by (Some inner) (head.Tag n) bytes = start_heads inner.1 bytes
item_heads_by inner (head.Simple n) bytes = 0
item_heads_by inner (head.Float f) bytes = 0
item_heads_by inner head.Break bytes = 0

unfoldable pub item_heads : ℕ → Tally
item_heads zero = item_heads_by None
item_heads (suc levels) = item_heads_by (Some (item_within levels, item_heads levels))

-- how many heads are decoded of the string of this kind that begins the bytes, or up to the fault if none does
abbrev pub string_decoded : Bool → List ℕ → ℕ
string_decoded is_text bytes = start_heads (string_tally is_text) bytes

-- how many heads are decoded of the data item that begins the bytes, or up to the fault if none does
abbrev pub heads_decoded : List ℕ → ℕ
heads_decoded bytes = start_heads (item_heads max_depth) bytes
