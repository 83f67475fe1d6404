-- The data items that values are encoded as, and the sinks that they are put into.
use Rattle.passkey_kinds.specs.Base.{text_string, AuthenticatorTransport, written}
use Rattle.std.specs.Prelude.{ℕ, if◌then◌else◌, List, [], ◌∷◌, length, pos, Bool, true, ◌++◌, map as each, Option, Some, None, option_map}
use Rattle.passkey_bytes.specs.Map.{ByteMap}
use Rattle.passkey_cbor.specs.Canonical.{Ascend}
use Rattle.passkey_cbor.specs.Item.{Item, number, byte_string, array, map, boolean, null, items_of, pairs_of}
use Rattle.passkey_kinds.specs.Record.{Members}
use Rattle.passkey_kinds.specs.declared.sink.Counted.{Counted}
use Rattle.passkey_webauthn.specs.CredentialType.{credential_type_name}
use Rattle.passkey_webauthn.specs.Transport.{transport_name}
use Rattle.passkey_webauthn.specs.declared.credential_type.PublicKeyCredentialType.{PublicKeyCredentialType}
use Rattle.std.specs.Cmp.Lexicographic.{slice_cmp}
use Rattle.std.specs.Ordering.{nat_cmp, ordering_then}
use Rattle.std.specs.declared.cmp.Ordering.{Ordering}
use Rattle.std.specs.FinMap as fin

-- ---- entries whose keys are byte strings, in CTAP2's order of map keys (CTAP 2.1, section 8)

-- the shorter one first; of two with the same length, the one with the lower bytes
abbrev pub by_length : List ℕ → List ℕ → Ordering
by_length a b = ordering_then (nat_cmp (length a) (length b)) (slice_cmp nat_cmp a b)

-- the entries in that order of their keys
abbrev pub short_first : {A : Type 0} → List (List ℕ × A) → List (List ℕ × A)
short_first es = fin.entries (fin.from_entries {R = by_length} es)

-- ---- the data items that values are encoded as. A record's members are laid out one after the other

abbrev pub number_tree : ℕ → Item
number_tree n = number (pos n)

-- `None` is encoded as null
abbrev pub option_tree : {A : Type 0} → (A → Item) → Option A → Item
option_tree tree None = null
option_tree tree (Some x) = tree x

abbrev pub list_tree : {A : Type 0} → (A → Item) → List A → Item
list_tree tree xs = array (items_of (each tree xs))

-- bytes, encoded as an array of integers
abbrev pub numbers_tree : List ℕ → Item
numbers_tree bytes = list_tree number_tree bytes

abbrev pub map_tree : Members → Item
map_tree ms = map (pairs_of ms)

-- an entry, as a member under a byte string
abbrev pub entry_tree : {A : Type 0} → (A → Item) → List ℕ × A → Item × Item
entry_tree tree e = (byte_string e.0, tree e.1)

-- a map from byte strings, encoded with its keys in CTAP2's order
abbrev pub byte_map_tree : {A : Type 0} → (A → Item) → ByteMap A → Item
byte_map_tree tree m = map_tree (each (entry_tree tree) (short_first (fin.entries m)))

-- A map key with its value, or with `None` if the member is absent.
abbrev pub Place : Type 0
Place = Item × Option Item

abbrev pub always : {A : Type 0} → Item → (A → Item) → A → Place
always key tree x = (key, Some (tree x))

abbrev pub where_some : {A : Type 0} → Item → (A → Item) → Option A → Place
where_some key tree o = (key, option_map tree o)

abbrev pub where_true : Item → Bool → Place
where_true key b = (key, if b then Some (boolean true) else None)

abbrev pub under : Item → Option Item → Members
under key None = []
under key (Some x) = (let m : Item × Item = (key, x) in m) ∷ []

-- the members of the places that have a value
abbrev pub laid : List Place → Members
laid [] = []
laid (p ∷ ps) = under p.0 p.1 ++ laid ps

abbrev pub record_tree : List Place → Item
record_tree ps = map_tree (laid ps)

-- the keys of the members that are encoded ascend in CTAP2's order
abbrev pub KeysAscend : {A : Type 0} → (A → List Place) → Type 0
KeysAscend {A} places = (x : A) → Ascend (pairs_of (laid (places x)))

-- ---- the data items that names are encoded as (WebAuthn Level 3, section 5)

abbrev pub credential_type_tree : PublicKeyCredentialType → Item
credential_type_tree t = text_string (credential_type_name t)

abbrev pub transport_tree : AuthenticatorTransport → Item
transport_tree t = text_string (transport_name t)

-- ---- members that are put into a sink, one after the other

-- The state after a member, if it is present. It is unfolded only where it is proved of a sink, so
-- that the prover can follow a chain of members.
unfoldable pub put_one : {S : Type 0} → (Item → Item → S → S) → S → Item → Option Item → S
put_one step s key None = s
put_one step s key (Some x) = step key x s

-- the state after the members that are present
abbrev pub put_all : {S : Type 0} → (Item → Item → S → S) → S → List Place → S
put_all step s [] = s
put_all step s (p ∷ ps) = put_all step (put_one step s p.0 p.1) ps

-- the sink accepted the member, if it is present
abbrev pub MemberAccepted : (Item → Type 0) → Item → Option Item → Type 0
MemberAccepted Accepts key None = Unit {0}
MemberAccepted Accepts key (Some x) = Accepts key × Accepts x

abbrev pub AllAccepted : (Item → Type 0) → List Place → Type 0
AllAccepted Accepts [] = Unit {0}
AllAccepted Accepts (p ∷ ps) = MemberAccepted Accepts p.0 p.1 × AllAccepted Accepts ps

abbrev pub count_of : Counted → ℕ
count_of counted = counted.members

-- the members with one more
abbrev pub append_member : Item → Item → Members → Members
append_member key x ms = ms ++ (let m : Item × Item = (key, x) in m) ∷ []

-- the encoding with that of one more member
abbrev pub encode_member : Item → Item → List ℕ → List ℕ
encode_member key x bytes = (bytes ++ written key) ++ written x
