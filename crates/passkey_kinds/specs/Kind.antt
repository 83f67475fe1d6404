-- Kinds: what data items decode to, and how many data items a decoded value keeps.
use Rattle.passkey_kinds.specs.Base.{Item, elements, members, text_bytes, Grows, number, text_string, byte_string, array, boolean, null, algorithm_number, algorithm_named, Algorithm, signed_64, whole_64, CursorState, raised, nodes, data_heads, data_nodes, DataParts, data_parts}
use Rattle.std.specs.Prelude.{ℕ, ◌+◌, ◌-◌, min, List, [], ◌∷◌, ◌≡◌, ◌==◌, pos, nat_lt, length, Bool, IsTrue, if◌then◌else◌, Option, Some, None, is_some, option_map, unwrap_or, Result, Ok, Err, ◌*◌, ◌≤◌, map as each_one, ◌^◌, ◌<◌, ◌&&◌}
use Rattle.passkey_bytes.specs.Map.{ByteMap, put_each}
use Rattle.passkey_kinds.specs.Shape.{Shape}
use Rattle.passkey_core.specs.DataRead.{read_data}
use Rattle.passkey_core.specs.DataWritten.{data_written}
use Rattle.passkey_core.specs.declared.aaguid.Aaguid.{Aaguid}
use Rattle.passkey_core.specs.declared.authenticator_data.AuthenticatorData.{AuthenticatorData}
use Rattle.passkey_kinds.specs.declared.fault.Refusal.{Refusal}
use Rattle.passkey_kinds.specs.declared.fault.Refusal.TheVariants.{Refused, OutOfMemory}
use Rattle.std.specs.List.{filter_map}
use Rattle.std.specs.Option.{option_and_then, option_zip}
use Rattle.std.specs.Result.{result_ok}
use Rattle.std.specs.Str.{trim}
use Rattle.std.specs.FinMap as fin
use Rattle.passkey_cbor.specs.Item as item

-- ---- what decoding counts at least

-- so many heads and data items
pub record Least : Type 0 where
  pub heads : ℕ
  pub nodes : ℕ

abbrev pub no_least : Least
no_least = record { heads = 0; nodes = 0 }

abbrev pub least_and : Least → Least → Least
least_and x y = record { heads = x.heads + y.heads; nodes = x.nodes + y.nodes }

-- the sum for each of these
abbrev pub least_sum : {X : Type 0} → (X → Least) → List X → Least
least_sum least [] = no_least
least_sum least (x ∷ xs) = least_and (least x) (least_sum least xs)

-- the sum for the elements of an array
abbrev pub least_elements : (Item → Least) → Item → Least
least_elements least (item.array xs) = least_sum least (elements xs)
least_elements least _ = no_least

-- the sum for the values of a map
abbrev pub least_members : (Item → Least) → Item → Least
least_members least (item.map ps) = least_sum (λ m. least m.1) (members ps)
least_members least _ = no_least

-- for null nothing is decoded
abbrev pub least_unless_null : (Item → Least) → Item → Least
least_unless_null least null = no_least
least_unless_null least i = least i

-- The cursor counted at least so many heads and data items.
pub record CountsLeast (least : Least) (old new : CursorState) : Type 0 where
  pub heads : raised old.heads least.heads ≤ new.heads
  pub nodes : raised old.nodes least.nodes ≤ new.nodes

-- ---- how many data items decoding makes as values: none; or at most so many for an item, and what is
-- counted at least if the item is accepted: these data items, and the heads that are decoded in them
-- by a cursor of their own

pub data Keeping : Type 0 where
  nothing : Keeping
  counted : (Item → ℕ) → (Item → Least) → Keeping

-- how many it is at most for this item
abbrev pub kept_of : Keeping → Item → ℕ
kept_of nothing i = 0
kept_of (counted most least) i = most i

-- what is counted at least for this item
abbrev pub least_of : Keeping → Item → Least
least_of nothing i = no_least
least_of (counted most least) i = least i

abbrev pub CountsKept : Keeping → Item → CursorState → CursorState → Type 0
CountsKept nothing i old new = Unit {0}
CountsKept (counted most least) i old new = CountsLeast (least i) old new

-- the sum for each of these
abbrev pub kept_sum : {X : Type 0} → (X → ℕ) → List X → ℕ
kept_sum count [] = 0
kept_sum count (x ∷ xs) = count x + kept_sum count xs

-- the sum for the elements of an array
abbrev pub kept_elements : (Item → ℕ) → Item → ℕ
kept_elements count (item.array xs) = kept_sum count (elements xs)
kept_elements count _ = 0

-- the sum for the values of a map
abbrev pub kept_members : (Item → ℕ) → Item → ℕ
kept_members count (item.map ps) = kept_sum (λ m. count m.1) (members ps)
kept_members count _ = 0

abbrev pub in_elements : Keeping → Keeping
in_elements nothing = nothing
in_elements (counted most least) = counted (kept_elements most) (least_elements least)

abbrev pub in_members : Keeping → Keeping
in_members nothing = nothing
in_members (counted most least) = counted (kept_members most) (least_members least)

-- null is decoded without the kind
abbrev pub unless_null : Keeping → Keeping
unless_null nothing = nothing
unless_null (counted most least) = counted most (least_unless_null least)

-- ---- kinds: what data items decode to. A kind accepts some items and has a value for each of them

abbrev pub Kind : Type 0 → Type 0
Kind M = Item → Option M

-- The error of decoding: `Refused`, if no value is wanted; or `OutOfMemory`, only if decoding may
-- allocate memory.
abbrev pub FailsAs : {M : Type 0} → Option M → Type 0 → Refusal → Type 0
FailsAs wanted takes Refused = wanted ≡ None
FailsAs wanted takes OutOfMemory = takes

-- The result of decoding: a value whose view is the wanted one, or an error.
abbrev pub AnswersAs : {A M : Type 0} → (A → M) → Option M → Type 0 → Result A Refusal → Type 0
AnswersAs view wanted takes (Ok x) = wanted ≡ Some (view x)
AnswersAs view wanted takes (Err e) = FailsAs wanted takes e

-- decoding this item may allocate memory: the kind takes memory, and so does the item
abbrev pub MayGrow : Bool → Item → Type 0
MayGrow takes i = IsTrue takes × Grows i

-- A kind; whether decoding a value may allocate memory; how many heads it decodes at most for each
-- byte of the data item; which data items it makes as values; and its shape.
pub record Typed (M : Type 0) : Type 0 where
  pub of : Kind M
  pub takes : Bool
  pub cost : ℕ
  pub keeps : Keeping
  pub shape : Shape

-- whether the kind has a value for the item
abbrev pub accepts : {M : Type 0} → Typed M → Item → Bool
accepts k i = is_some (k.of i)

-- an item that the kind refuses may be decoded in part
abbrev pub if_accepted : {M : Type 0} → Kind M → Keeping → Keeping
if_accepted kind nothing = nothing
if_accepted kind (counted most least) = counted most (λ i. if is_some (kind i) then least i else no_least)

-- the result of decoding an item
abbrev pub Answers : {A M : Type 0} → (A → M) → Typed M → Item → Result A Refusal → Type 0
Answers view k i = AnswersAs view (k.of i) (MayGrow k.takes i)

abbrev pub truth_from : Kind Bool
truth_from (boolean b) = Some b
truth_from _ = None

-- unsigned integers below a limit
abbrev pub number_from : ℕ → Kind ℕ
number_from limit (number (pos n)) = if nat_lt n limit then Some n else None
number_from limit _ = None

abbrev pub text_from : Kind (List ℕ)
text_from (text_string s) = Some s
text_from _ = None

-- a text string that is one of these names
abbrev pub name_from : {T : Type 0} → (List ℕ → Option T) → Kind T
name_from named (text_string s) = named s
name_from named _ = None

-- any item, unchanged
abbrev pub any_from : Kind Item
any_from i = Some i

-- null decodes to `None`
abbrev pub optional_from : {M : Type 0} → Kind M → Kind (Option M)
optional_from kind null = Some None
optional_from kind i = option_map Some (kind i)

-- the values of all elements, if every element has one
abbrev pub each : {X M : Type 0} → (X → Option M) → List X → Option (List M)
each kind [] = Some []
each kind (i ∷ is) = option_and_then (λ x. option_map (λ xs. x ∷ xs) (each kind is)) (kind i)

-- a byte string; an array of integers from 0 to 255; or a text string in base64url or base64, with
-- white space allowed around it
abbrev pub bytes_from : Kind (List ℕ)
bytes_from (byte_string s) = Some s
bytes_from (array xs) = each (number_from 256) (elements xs)
bytes_from (text_string s) = text_bytes (trim s)
bytes_from _ = None

-- a byte string or an array of integers from 0 to 255, of exactly this length
abbrev pub sized_bytes_from : ℕ → Kind (List ℕ)
sized_bytes_from n (byte_string s) = if length s == n then Some s else None
sized_bytes_from n (array xs) = if length (elements xs) == n then each (number_from 256) (elements xs) else None
sized_bytes_from n _ = None

abbrev pub list_from : {M : Type 0} → Kind M → Kind (List M)
list_from kind (array xs) = each kind (elements xs)
list_from kind _ = None

-- the values of the elements that the kind accepts, in their order
abbrev pub accepted_from : {M : Type 0} → Kind M → Kind (List M)
accepted_from kind (array xs) = Some (filter_map kind (elements xs))
accepted_from kind _ = None

-- the value, or `None` if the kind refuses the item
abbrev pub tolerated_from : {M : Type 0} → Kind M → Kind (Option M)
tolerated_from kind i = Some (kind i)

-- the value, or this default if the kind refuses the item
abbrev pub or_else_from : {M : Type 0} → M → Kind M → Kind M
or_else_from default kind i = Some (unwrap_or (kind i) default)

-- ---- identifiers of COSE algorithms (RFC 9053, section 2; IANA's COSE Algorithms registry)

-- an integer, or the whole part of a number in a text string, if it fits in 64 bits and is the
-- identifier of an algorithm
abbrev pub algorithm_from : Kind Algorithm
algorithm_from (number z) = option_and_then algorithm_named (signed_64 z)
algorithm_from (text_string s) = option_and_then algorithm_named (whole_64 s)
algorithm_from _ = None

abbrev pub algorithm_tree : Algorithm → Item
algorithm_tree a = number (algorithm_number a)

-- ---- authenticator data and AAGUIDs (WebAuthn Level 3, sections 6.1 and 6.5.1)

-- a byte string that decodes as authenticator data; the kind refuses it for any fault
abbrev pub data_from : Kind DataParts
data_from (byte_string s) = result_ok (read_data s)
data_from _ = None

-- how many data items decoding makes as values, for the credential public key and the extensions
abbrev pub authenticator_data_nodes : Item → ℕ
authenticator_data_nodes (byte_string s) = data_nodes s
authenticator_data_nodes _ = 0

-- these data items, and their heads
abbrev pub authenticator_data_least : Item → Least
authenticator_data_least (byte_string s) = record { heads = data_heads s; nodes = data_nodes s }
authenticator_data_least _ = no_least

abbrev pub keeps_data : Keeping
keeps_data = counted authenticator_data_nodes authenticator_data_least

-- the item itself
abbrev pub keeps_item : Keeping
keeps_item = counted nodes (λ i. record { heads = 0; nodes = nodes i })

abbrev pub auth_data_tree : DataParts → Item
auth_data_tree d = byte_string (data_written d)

abbrev pub data_tree : AuthenticatorData → Item
data_tree d = auth_data_tree (data_parts d)

-- a byte string of 16 bytes
abbrev pub aaguid_from : Kind (List ℕ)
aaguid_from (byte_string s) = if length s == 16 then Some s else None
aaguid_from _ = None

abbrev pub aaguid_tree : Aaguid → Item
aaguid_tree a = byte_string a.0

-- The cost of decoding these bytes as authenticator data, in a cursor's counts: at most four heads
-- for each byte and four more, and the data items made as values for the credential public key and
-- the extensions. The cursor doesn't move.
pub record CountsData (bytes : List ℕ) (old new : CursorState) : Type 0 where
  pub heads : new.heads ≤ old.heads + (4 * length bytes + 4)
  pub nodes : new.nodes ≤ old.nodes + data_nodes bytes
  pub heads_rise : old.heads ≤ new.heads
  pub nodes_rise : old.nodes ≤ new.nodes
  pub place : new.place ≡ old.place
  pub same : new.bytes ≡ old.bytes

-- At least the heads and the data items of the credential public key and the extensions, as far as
-- decoding gets, were added to the counts.
pub record CountsDataItems (bytes : List ℕ) (heads nodes new_heads new_nodes : ℕ) : Type 0 where
  pub all_heads : min (heads + data_heads bytes) (2 ^ 128 - 1) ≤ new_heads
  pub all_nodes : min (nodes + data_nodes bytes) (2 ^ 128 - 1) ≤ new_nodes

-- the fact, unless memory ran out
abbrev pub UnlessOutOfMemory : {A : Type 0} → Result A Refusal → Type 0 → Type 0
UnlessOutOfMemory (Ok x) P = P
UnlessOutOfMemory (Err Refused) P = P
UnlessOutOfMemory (Err OutOfMemory) P = Unit {0}

-- ---- maps from byte strings, decoded from maps whose keys decode to byte strings

-- the key and the value of a member, if both are accepted
abbrev pub entry : {M : Type 0} → Kind M → Item × Item → Option (List ℕ × M)
entry kind m = option_zip (bytes_from m.0) (kind m.1)

-- the map with the entries of these members, if all members are accepted
abbrev pub with_members : {M : Type 0} → Kind M → ByteMap M → List (Item × Item) → Option (ByteMap M)
with_members kind m ms = option_map (put_each m) (each (entry kind) ms)

abbrev pub byte_map_from : {M : Type 0} → Kind M → Kind (ByteMap M)
byte_map_from kind (item.map ps) = with_members kind fin.empty (members ps)
byte_map_from kind _ = None

-- the map with the view of each of its values
abbrev pub map_values : {A M : Type 0} → (A → M) → ByteMap A → ByteMap M
map_values view m = fin.from_entries (each_one (λ e. (e.0, view e.1)) (fin.entries m))

-- ---- sizes: unsigned integers of at most 64 bits, except 0 (CTAP 2.1, section 6.4; RFC 8949, section 3.1)

abbrev pub size_from : Kind ℕ
size_from (number (pos n)) = if nat_lt 0 n && nat_lt n (2 ^ 64) then Some n else None
size_from _ = None

abbrev pub IsSize : ℕ → Type 0
IsSize n = (0 < n) × (n < 2 ^ 64)
