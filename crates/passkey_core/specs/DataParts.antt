-- The parts of authenticator data and of attested credential data (WebAuthn Level 3, sections 6.1 and 6.5.1).
use Rattle.std.specs.Prelude.{ℕ, List, Option, None}
use Rattle.passkey_cbor.specs.Item.{Item}
use Rattle.passkey_cose.specs.KeyParts.{KeyParts}

-- the AAGUID has 16 bytes, and the credential id at most 65535
pub record AttestedParts : Type 0 where
  pub aaguid : List ℕ
  pub credential_id : List ℕ
  pub key : KeyParts

-- the relying party id's hash has 32 bytes, and the flags are one byte
pub record DataParts : Type 0 where
  pub rp_id_hash : List ℕ
  pub flags : ℕ
  pub counter : Option ℕ
  pub attested : Option AttestedParts
  pub extensions : Option Item

-- data without attested credential data or extensions
abbrev pub bare_data : List ℕ → ℕ → Option ℕ → DataParts
bare_data hash flags counter =
    record { rp_id_hash = hash; flags = flags; counter = counter; attested = None; extensions = None }
