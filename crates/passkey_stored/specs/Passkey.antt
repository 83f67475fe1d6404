-- Passkeys (WebAuthn Level 3, section 4: public key credential source).
use Rattle.std.specs.Prelude.{ℕ, ◌<◌, ◌⊎◌, List, ◌++◌, length, codes, Option, Some, None}
use Rattle.std.specs.Fmt.{decimal, signed_decimal}
use Rattle.std.specs.Option.{IsSomeAnd}
use Rattle.passkey_cose.specs.Key.{key_parts}
use Rattle.passkey_cose.specs.KeyParts.{KeyParts, KeyGrows}
use Rattle.passkey_cose.specs.Registered.{Named, assigned, other, text}
use Rattle.passkey_iana.specs.declared.key_type.KeyType.{KeyType}
use Rattle.passkey_iana.specs.declared.key_type.KeyType.TheVariants as key_type
use Rattle.passkey_cose.specs.declared.key.CoseKey.{CoseKey}
use Rattle.passkey_stored.specs.Extensions.{no_extensions}
use Rattle.passkey_stored.specs.HmacSecret.{HoldsSecrets}
use Rattle.passkey_stored.specs.declared.extensions.CredentialExtensions.{CredentialExtensions}
use Rattle.passkey_stored.specs.declared.passkey.Passkey.{Passkey}
use Rattle.passkey_webauthn.specs.declared.credential_type.PublicKeyCredentialType.TheVariants.{PublicKey}
use Rattle.passkey_webauthn.specs.declared.descriptor.PublicKeyCredentialDescriptor.{PublicKeyCredentialDescriptor}

-- a passkey as contracts see it
pub record PasskeyParts : Type 0 where
  pub key : KeyParts
  pub credential_id : List ℕ
  pub rp_id : List ℕ
  pub user_handle : Option (List ℕ)
  pub username : Option (List ℕ)
  pub user_display_name : Option (List ℕ)
  pub counter : Option ℕ
  pub extensions : CredentialExtensions

abbrev pub passkey_parts : Passkey → PasskeyParts
passkey_parts p =
    record {
      key = key_parts p.key;
      credential_id = p.credential_id;
      rp_id = p.rp_id;
      user_handle = p.user_handle;
      username = p.username;
      user_display_name = p.user_display_name;
      counter = p.counter;
      extensions = p.extensions;
    }

-- a passkey with nothing else set
abbrev pub fresh : CoseKey → List ℕ → List ℕ → Passkey
fresh key rp_id credential_id =
    record {
      key = key;
      credential_id = credential_id;
      rp_id = rp_id;
      user_handle = None;
      username = None;
      user_display_name = None;
      counter = None;
      extensions = no_extensions;
    }

-- the descriptor of the passkey's credential
abbrev pub named : Passkey → PublicKeyCredentialDescriptor
named p = record { ty = PublicKey; id = p.credential_id; transports = None }

abbrev pub IsFilled : Option (List ℕ) → Type 0
IsFilled o = IsSomeAnd o (λ bytes. 0 < length bytes)

-- the passkey takes memory
abbrev pub PasskeyGrows : PasskeyParts → Type 0
PasskeyGrows p =
    KeyGrows p.key
    ⊎ (0 < length p.credential_id)
    ⊎ (0 < length p.rp_id)
    ⊎ IsFilled p.user_handle
    ⊎ IsFilled p.username
    ⊎ IsFilled p.user_display_name
    ⊎ IsSomeAnd p.extensions.hmac_secret HoldsSecrets

-- ---- the debug text

abbrev pub key_type_name : KeyType → List ℕ
key_type_name key_type.Reserved = codes "Reserved"
key_type_name key_type.OKP = codes "OKP"
key_type_name key_type.EC2 = codes "EC2"
key_type_name key_type.RSA = codes "RSA"
key_type_name key_type.Symmetric = codes "Symmetric"

abbrev pub key_type_text : Named KeyType → List ℕ
key_type_text (assigned kty) = codes "Assigned(" ++ key_type_name kty ++ codes ")"
key_type_text (other z) = codes "Other(" ++ signed_decimal z ++ codes ")"
key_type_text (text s) = codes "Text"

abbrev pub counter_text : Option ℕ → List ℕ
counter_text (Some n) = codes ", counter: Some(" ++ decimal n ++ codes ") }"
counter_text None = codes ", counter: None }"

abbrev pub printed : PasskeyParts → List ℕ
printed p = codes "Passkey { key_type: " ++ key_type_text p.key.kty ++ counter_text p.counter
