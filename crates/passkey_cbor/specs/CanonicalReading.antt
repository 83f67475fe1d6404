-- The bytes that follow a canonical data item at the beginning of a byte list.
use Rattle.std.specs.Prelude.{◌≡◌, ◌≢◌, ℕ, ◌+◌, ◌-◌, ◌*◌, ◌≤◌, pos, negsuc, nat_lt, List, [], ◌∷◌, ◌++◌, length, Bool, true, false, if◌then◌else◌, Option, Some, None}
use Rattle.passkey_cbor.specs.Canonical.{AscendFrom, IsOrdered, AreOrdered, ArePairsOrdered}
use Rattle.passkey_cbor.specs.Depth.{depth, items_depth, pairs_depth}
use Rattle.passkey_cbor.specs.HeadEncoding.{IsEncodingOfHead}
use Rattle.passkey_cbor.specs.Heads.{indefinite, break}
use Rattle.passkey_cbor.specs.Inside.{IsAllowed}
use Rattle.passkey_cbor.specs.Item.{Item, number, byte_string, text_string, array, map, tagged, boolean, null, simple, float, Items, Pairs}
use Rattle.passkey_cbor.specs.Encoding.{items_len, pairs_len}
use Rattle.passkey_cbor.specs.Writable.{IsWritable, AreWritable, ArePairsWritable}
use Rattle.passkey_cbor.specs.Written.{shortest_head, float_head, written, items_written, pairs_written}
use Rattle.passkey_cbor.specs.declared.head.Head.{Head}
use Rattle.passkey_cbor.specs.declared.head.Head.TheVariants as head

-- `Some`: the rest satisfies `Rest`; `None`: no rest does
abbrev pub Leaves : (List ℕ → Type 0) → Option (List ℕ) → Type 0
Leaves Rest (Some rest) = Rest rest
Leaves Rest None = (rest : List ℕ) → Rest rest → ⊥

-- ---- heads

abbrev pub length_head : ℕ → Option ℕ → List ℕ
length_head major (Some n) = shortest_head major n
length_head major None = indefinite major ∷ []

-- the shortest encoding of a head
abbrev pub head_written : Head → List ℕ
head_written (head.Unsigned n) = shortest_head 0 n
head_written (head.Negative n) = shortest_head 1 n
head_written (head.Bytes len) = length_head 2 len
head_written (head.Text len) = length_head 3 len
head_written (head.Array len) = length_head 4 len
head_written (head.Map len) = length_head 5 len
head_written (head.Tag n) = shortest_head 6 n
head_written (head.Simple n) = if nat_lt n 24 then (32 * 7 + n) ∷ [] else 248 ∷ n ∷ []
head_written (head.Float f) = float_head f
head_written head.Break = break ∷ []

-- The bytes begin with the shortest encoding of this head.
pub record BeginsShortest (h : Head) (bytes rest : List ℕ) : Type 0 where
  pub encoded : IsEncodingOfHead h (head_written h)
  pub parts : bytes ≡ head_written h ++ rest

abbrev pub DecodesShortest : List ℕ → Option (Head × List ℕ) → Type 0
DecodesShortest bytes (Some r) = BeginsShortest r.0 bytes r.1
DecodesShortest bytes None = (h : Head) (rest : List ℕ) → BeginsShortest h bytes rest → ⊥

-- ---- items

-- a data item's head, and what follows the head in the item's encoding
abbrev pub boolean_value : Bool → ℕ
boolean_value false = 20
boolean_value true = 21

abbrev pub head_of : Item → Head
head_of (number (pos n)) = head.Unsigned n
head_of (number (negsuc n)) = head.Negative n
head_of (byte_string s) = head.Bytes (Some (length s))
head_of (text_string s) = head.Text (Some (length s))
head_of (array xs) = head.Array (Some (items_len xs))
head_of (map ps) = head.Map (Some (pairs_len ps))
head_of (tagged t x) = head.Tag t
head_of (boolean b) = head.Simple (boolean_value b)
head_of null = head.Simple 22
head_of (simple n) = head.Simple n
head_of (float f) = head.Float f

abbrev pub content_of : Item → List ℕ
content_of (number z) = []
content_of (byte_string s) = s
content_of (text_string s) = s
content_of (array xs) = items_written xs
content_of (map ps) = pairs_written ps
content_of (tagged t x) = written x
content_of (boolean b) = []
content_of null = []
content_of (simple n) = []
content_of (float f) = []

-- The bytes begin with a canonical data item of at most `levels` levels.
pub record BeginsItem (levels : ℕ) (bytes rest : List ℕ) : Type 0 where
  pub item : Item
  pub writable : IsWritable item
  pub ordered : IsOrdered item
  pub shallow : depth item ≤ levels
  pub parts : bytes ≡ written item ++ rest

-- They begin with `count` such items, one after the other.
pub record BeginsItems (levels count : ℕ) (bytes rest : List ℕ) : Type 0 where
  pub items : Items
  pub counted : items_len items ≡ count
  pub writable : AreWritable items
  pub ordered : AreOrdered items
  pub shallow : items_depth items ≤ levels
  pub parts : bytes ≡ items_written items ++ rest

-- They begin with `count` pairs of such items, whose keys ascend, the first after the key `before`.
pub record BeginsPairs (levels count : ℕ) (before : Option (List ℕ)) (bytes rest : List ℕ) : Type 0 where
  pub pairs : Pairs
  pub counted : pairs_len pairs ≡ count
  pub writable : ArePairsWritable pairs
  pub ascend : AscendFrom before pairs
  pub ordered : ArePairsOrdered pairs
  pub shallow : pairs_depth pairs ≤ levels
  pub parts : bytes ≡ pairs_written pairs ++ rest

-- ---- what follows a head

-- The content of a string of `len` bytes.
pub record BeginsString (is_text : Bool) (len : ℕ) (bytes rest : List ℕ) : Type 0 where
  pub content : List ℕ
  pub long : length content ≡ len
  pub allowed_text : IsAllowed is_text content
  pub parts : bytes ≡ content ++ rest

-- What follows the head of a canonical data item.
abbrev pub BeginsContent : ℕ → Head → List ℕ → List ℕ → Type 0
BeginsContent levels (head.Unsigned n) bytes rest = rest ≡ bytes
BeginsContent levels (head.Negative n) bytes rest = rest ≡ bytes
BeginsContent levels (head.Bytes None) bytes rest = ⊥
BeginsContent levels (head.Bytes (Some len)) bytes rest = BeginsString false len bytes rest
BeginsContent levels (head.Text None) bytes rest = ⊥
BeginsContent levels (head.Text (Some len)) bytes rest = BeginsString true len bytes rest
BeginsContent levels (head.Array None) bytes rest = ⊥
BeginsContent levels (head.Array (Some len)) bytes rest = (1 ≤ levels) × BeginsItems (levels - 1) len bytes rest
BeginsContent levels (head.Map None) bytes rest = ⊥
BeginsContent levels (head.Map (Some len)) bytes rest = (1 ≤ levels) × BeginsPairs (levels - 1) len None bytes rest
BeginsContent levels (head.Tag n) bytes rest = ⊥
BeginsContent levels (head.Simple n) bytes rest = (n ≢ 23) × (rest ≡ bytes)
BeginsContent levels (head.Float f) bytes rest = rest ≡ bytes
BeginsContent levels head.Break bytes rest = ⊥
