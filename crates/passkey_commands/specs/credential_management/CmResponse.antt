-- authenticatorCredentialManagement responses (CTAP 2.1, section 6.8).
use Rattle.std.specs.Prelude.{Bool, List, None, Option, [], codes, option_map, ℕ, ◌∷◌}
use Rattle.passkey_commands.specs.credential_management.CredProtect.{cred_protect_of, cred_protect_byte}
use Rattle.passkey_commands.specs.declared.credential_management.cred_protect.CredProtect.{CredProtect}
use Rattle.passkey_commands.specs.declared.credential_management.response.Response.{Response}
use Rattle.passkey_extensions.specs.Entities.{rp}
use Rattle.passkey_extensions.specs.Entities.{user}
use Rattle.passkey_extensions.specs.declared.rp.PublicKeyCredentialRpEntity.{PublicKeyCredentialRpEntity}
use Rattle.passkey_extensions.specs.declared.user.PublicKeyCredentialUserEntity.{PublicKeyCredentialUserEntity}
use Rattle.passkey_kinds.specs.Coded.{bytes, truth}
use Rattle.passkey_kinds.specs.Numbered.{code, kept_item}
use Rattle.passkey_kinds.specs.Words.{Item, PlainTable, optional_at, plain, word}
use Rattle.passkey_kinds.specs.Words.{PublicKeyCredentialDescriptor}
use Rattle.passkey_kinds.specs.Words.{descriptor}

abbrev pub cm_response : PlainTable Response
cm_response = record {
  blank = record {
    existing_resident_credentials_count = None;
    max_possible_remaining_resident_credentials_count = None;
    rp = None;
    rp_id_hash = None;
    total_rps = None;
    user = None;
    credential_id = None;
    public_key = None;
    total_credentials = None;
    cred_protect = None;
    large_blob_key = None;
    third_party_payment = None;
  };
  members = optional_at 1 (codes "existingResidentCredentialsCount") word (λ r. r.existing_resident_credentials_count)
      (λ x r. record r { existing_resident_credentials_count = x })
      ∷ optional_at 2 (codes "maxPossibleRemainingResidentCredentialsCount") word (λ r. r.max_possible_remaining_resident_credentials_count)
      (λ x r. record r { max_possible_remaining_resident_credentials_count = x })
      ∷ optional_at 3 (codes "rp") (plain rp) (λ r. r.rp) (λ x r. record r { rp = x })
      ∷ optional_at 4 (codes "rpIDHash") bytes (λ r. r.rp_id_hash) (λ x r. record r { rp_id_hash = x })
      ∷ optional_at 5 (codes "totalRPs") word (λ r. r.total_rps) (λ x r. record r { total_rps = x })
      ∷ optional_at 6 (codes "user") (plain user) (λ r. r.user) (λ x r. record r { user = x })
      ∷ optional_at 7 (codes "credentialID") (plain descriptor) (λ r. r.credential_id) (λ x r. record r { credential_id = x })
      ∷ optional_at 8 (codes "publicKey") kept_item (λ r. r.public_key) (λ x r. record r { public_key = x })
      ∷ optional_at 9 (codes "totalCredentials") word (λ r. r.total_credentials) (λ x r. record r { total_credentials = x })
      ∷ optional_at 10 (codes "credProtect") (code cred_protect_of cred_protect_byte) (λ r. r.cred_protect)
      (λ x r. record r { cred_protect = x })
      ∷ optional_at 11 (codes "largeBlobKey") bytes (λ r. r.large_blob_key) (λ x r. record r { large_blob_key = x })
      ∷ optional_at 12 (codes "thirdPartyPayment") truth (λ r. r.third_party_payment)
      (λ x r. record r { third_party_payment = x })
      ∷ [];
}

-- what the encoding decodes to: a value with the number of a named one becomes the named one
abbrev pub normal_cm_response : Response → Response
normal_cm_response r = record r {
  cred_protect = option_map (λ x. cred_protect_of (cred_protect_byte x)) r.cred_protect;
}
