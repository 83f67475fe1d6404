-- The encoding of authenticator data (WebAuthn Level 3, sections 6.1 and 6.5.1).
use Rattle.std.specs.Prelude.{ℕ, List, [], ◌∷◌, ◌++◌, length, Option, Some, None, unwrap_or, option_map}
use Rattle.std.specs.Int.{w16, w32, to_be_bytes}
use Rattle.std.specs.Int.RustNames.{bit_or}
use Rattle.passkey_cbor.specs.Written.{written}
use Rattle.passkey_cose.specs.KeyParts.{key_item}
use Rattle.passkey_core.specs.DataParts.{AttestedParts, DataParts}
use Rattle.passkey_core.specs.DataFlags.{attested_flag}

-- the AAGUID, the credential id's length, the credential id, and the key
abbrev pub attested_written : AttestedParts → List ℕ
attested_written a =
    a.aaguid ++ to_be_bytes w16 (length a.credential_id) ++ a.credential_id ++ written (key_item a.key)

-- AT is set if attested credential data is present
abbrev pub flags_written : ℕ → Option AttestedParts → ℕ
flags_written flags (Some a) = bit_or flags attested_flag
flags_written flags None = flags

-- the relying party id's hash, the flags, the counter (0 if absent), and each part that is present
abbrev pub data_written : DataParts → List ℕ
data_written d =
    d.rp_id_hash
    ++ (flags_written d.flags d.attested ∷ [])
    ++ to_be_bytes w32 (unwrap_or d.counter 0)
    ++ unwrap_or (option_map attested_written d.attested) []
    ++ unwrap_or (option_map written d.extensions) []
