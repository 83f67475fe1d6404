-- The bytes of authenticator data (WebAuthn Level 3, section 6.1) and of attested credential data (section 6.5.1) whose parts a
-- JSON object has.
use Rattle.std.specs.Prelude.{ℕ, pos, ◌==◌, ◌^◌, nat_lt, if◌then◌else◌, List, [], ◌∷◌, ◌++◌, length, fold}
use Rattle.std.specs.Prelude.{Bool, false, not, ◌&&◌, Option, Some, None, is_some, unwrap_or, Err, String, Vec, codes, string_bytes}
use Rattle.std.proofs.Common.{refl}
use Rattle.std.specs.Int.{w16, w32, to_be_bytes}
use Rattle.std.specs.Int.RustNames.{bit_or}
use Rattle.std.specs.Option.{option_and_then}
use Rattle.std.specs.Str.{bytes_eq}
use Rattle.json.specs.Json.{Json}
use Rattle.passkey_cbor.specs.Item.{Item, byte_string, number, text_string}
use Rattle.passkey_cbor.specs.Written.{written}
use Rattle.passkey_cbor_text.specs.declared.values.leaf.StringForm.TheVariants as string
use Rattle.passkey_cbor_text.specs.declared.values.no_item.ItemReason.{ItemReason}
use Rattle.passkey_cbor_text.specs.declared.values.no_item.ItemReason.TheVariants as reason
use Rattle.passkey_cbor_text.specs.values.Exact.{ReadsEscapes}
use Rattle.passkey_cbor_text.specs.values.JsonItem.{leaf_item}
use Rattle.passkey_cbor_text.specs.values.NoItem.{Read, here, or_reason, read_map, then_with}
use Rattle.passkey_cbor_text.specs.values.Registries.{Row, named_in}
use Rattle.passkey_core.specs.DataFlags.{attested_flag, extensions_flag, has_flag}
use Rattle.passkey_core.specs.Flags.{flag_bits}
use Rattle.passkey_render.specs.KeyParts.{key_item}
use Rattle.passkey_render.specs.Parts.{Named, elements_of, members_of, of_parts, read_each}

-- ---- one part

-- a byte string of this length
abbrev pub sized_bytes : ℕ → Item → Option (List ℕ)
sized_bytes n (byte_string s) = if length s == n then Some s else None
sized_bytes n _ = None

-- a byte string after its length in 2 bytes
abbrev pub counted_bytes : Item → Option (List ℕ)
counted_bytes (byte_string s) =
    if nat_lt (length s) (2 ^ 16) then Some (to_be_bytes w16 (length s) ++ s) else None
counted_bytes _ = None

-- an integer in 4 bytes
abbrev pub counter_bytes : Item → Option (List ℕ)
counter_bytes (number (pos n)) = if nat_lt n (2 ^ 32) then Some (to_be_bytes w32 n) else None
counter_bytes _ = None

-- an integer in one byte
abbrev pub byte_of : Item → Option (List ℕ)
byte_of (number (pos n)) = if nat_lt n (2 ^ 8) then Some (n ∷ []) else None
byte_of _ = None

abbrev pub flag_in : Item → Option ℕ
flag_in (text_string name) = named_in name flag_bits
flag_in _ = None

abbrev pub flag_of : Json → Read ℕ
flag_of j = then_with (λ i. or_reason reason.Flag (flag_in i)) (leaf_item string.Text j)

abbrev pub flags_joined : List ℕ → List ℕ
flags_joined flags = fold bit_or 0 flags ∷ []

-- the byte of flags: those that an array names, or an integer
abbrev pub flags_bytes : Json → Read (List ℕ)
flags_bytes j =
    of_parts (elements_of j) (λ js. read_map flags_joined (read_each (λ _. flag_of) [] 0 js))
    (then_with (λ i. or_reason reason.Flags (byte_of i)) (leaf_item string.Text j))

-- ---- the parts of an object, by their names

abbrev pub Part : Type 0
Part = Row (List ℕ)

-- a part that the code has found
abbrev pub part_in : {A B : Type 0} → String A × Vec ℕ B → Part
part_in p = (string_bytes p.0, p.1.items)

-- the bytes of a member, unless an earlier one has its name
abbrev pub part_of : (List ℕ → Json → Read (List ℕ)) → List Part → Named → Read Part
part_of bytes before m =
    if is_some (named_in m.0 before) then Err (here reason.Repeated)
    else read_map (λ s. (let p : Part = (m.0, s) in p)) (bytes m.0 m.1)

-- the bytes of an object, put together from those of its members
abbrev pub object_bytes : (List ℕ → Json → Read (List ℕ)) → (List Part → Option (List ℕ)) → ItemReason → List Named
    → Read (List ℕ)
object_bytes bytes joined reason ms =
    then_with (λ ps. or_reason reason (joined ps)) (read_each (part_of bytes) [] 0 ms)

abbrev pub required : List ℕ → List Part → (List ℕ → Option (List ℕ)) → Option (List ℕ)
required name ps next = option_and_then next (named_in name ps)

-- ---- attested credential data

-- an AAGUID of 16 bytes, a credential id, or a key's encoding
abbrev pub attested_part : List ℕ → Json → Read (List ℕ)
attested_part name j =
    if bytes_eq name (codes "aaguid")
    then then_with (λ i. or_reason reason.Aaguid (sized_bytes 16 i)) (leaf_item string.Aaguid j)
    else if bytes_eq name (codes "credentialId")
    then then_with (λ i. or_reason reason.CredentialId (counted_bytes i)) (leaf_item string.Bytes j)
    else if bytes_eq name (codes "credentialPublicKey")
    then read_map written (key_item j)
    else Err (here reason.AttestedParts)

abbrev pub attested_joined : List Part → Option (List ℕ)
attested_joined ps =
    required (codes "aaguid") ps (λ aaguid.
    required (codes "credentialId") ps (λ id.
    required (codes "credentialPublicKey") ps (λ key. Some (aaguid ++ id ++ key))))

abbrev pub attested_bytes : Json → Read (List ℕ)
attested_bytes j = of_parts (members_of j) (object_bytes attested_part attested_joined reason.AttestedParts)
    (Err (here reason.AttestedParts))

-- ---- authenticator data

-- the hash of 32 bytes of the relying party's id, the flags, the signature counter, attested credential data, or extensions
abbrev pub data_part : List ℕ → Json → Read (List ℕ)
data_part name j =
    if bytes_eq name (codes "rpIdHash")
    then then_with (λ i. or_reason reason.Hash (sized_bytes 32 i)) (leaf_item string.Bytes j)
    else if bytes_eq name (codes "flags") then flags_bytes j
    else if bytes_eq name (codes "signCount")
    then then_with (λ i. or_reason reason.Counter (counter_bytes i)) (leaf_item string.Text j)
    else if bytes_eq name (codes "attestedCredentialData") then attested_bytes j
    else if bytes_eq name (codes "extensions") then read_map written (leaf_item string.Text j)
    else Err (here reason.DataParts)

-- whether a flag, in the byte of flags, is set exactly if its part is there
abbrev pub agrees : ℕ → List ℕ → Bool → Bool
agrees flag [] is_there = false
agrees flag (byte ∷ bytes) is_there = if is_there then has_flag flag byte else not (has_flag flag byte)

abbrev pub data_joined : List Part → Option (List ℕ)
data_joined ps =
    required (codes "rpIdHash") ps (λ hash.
    required (codes "flags") ps (λ flags.
    required (codes "signCount") ps (λ counter.
    (let attested = named_in (codes "attestedCredentialData") ps in
    let extensions = named_in (codes "extensions") ps in
    if agrees attested_flag flags (is_some attested) && agrees extensions_flag flags (is_some extensions)
    then Some (hash ++ flags ++ counter ++ unwrap_or attested [] ++ unwrap_or extensions [])
    else None))))

-- the byte string that a JSON value is where authenticator data are wanted: of the parts in an object, or in base64url
abbrev pub data_item : Json → Read Item
data_item j =
    of_parts (members_of j) (λ ms. read_map byte_string (object_bytes data_part data_joined reason.DataParts ms))
    (leaf_item string.Bytes j)

pub data_reads_escapes : ReadsEscapes data_item
data_reads_escapes digits i e = rw e refl
