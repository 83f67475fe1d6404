-- The normal form of authenticator data: what is read back after it is written.
use Rattle.std.specs.Prelude.{◌≡◌, ◌<◌, ◌^◌, length, Option, Some, None, option_map, unwrap_or}
use Rattle.passkey_cbor.specs.Writable.{IsWritable}
use Rattle.passkey_cose.specs.KeyNormal.{normal_key, IsKey}
use Rattle.passkey_cose.specs.KeyParts.{key_item}
use Rattle.passkey_core.specs.DataParts.{AttestedParts, DataParts}

abbrev pub normal_attested : AttestedParts → AttestedParts
normal_attested a = record a { key = normal_key a.key }

-- an absent counter is read as 0
abbrev pub normal_data : DataParts → DataParts
normal_data d =
    record d { counter = Some (unwrap_or d.counter 0); attested = option_map normal_attested d.attested }

-- The AAGUID and the credential id have lengths that fit their encoding, no member of the key is bad, and CBOR
-- can encode the key.
pub record IsAttested (a : AttestedParts) : Type 0 where
  pub aaguid : length a.aaguid ≡ 16
  pub credential_id : length a.credential_id < 2 ^ 16
  pub key : IsKey a.key
  pub writable : IsWritable (key_item a.key)

-- the property holds if the part is present
abbrev pub IfPresent : {X : Type 0} → (X → Type 0) → Option X → Type 0
IfPresent Holds None = Unit {0}
IfPresent Holds (Some x) = Holds x

-- The hash and the counter fit their encoding, attested credential data is as above, and CBOR can encode the
-- extensions.
pub record IsData (d : DataParts) : Type 0 where
  pub rp_id_hash : length d.rp_id_hash ≡ 32
  pub counter : unwrap_or d.counter 0 < 2 ^ 32
  pub attested : IfPresent IsAttested d.attested
  pub extensions : IfPresent IsWritable d.extensions
