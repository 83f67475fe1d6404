-- Users and relying parties of CTAP2's messages (CTAP 2.1, section 6.1).
use Rattle.std.specs.Prelude.{[], ◌∷◌, None, codes, List, ℕ, Option, Some, Result, Ok, Err}
use Rattle.passkey_extensions.specs.declared.missing_rp_id.MissingRpId.{MissingRpId}
use Rattle.passkey_extensions.specs.declared.rp.PublicKeyCredentialRpEntity.{PublicKeyCredentialRpEntity}
use Rattle.passkey_extensions.specs.declared.user.PublicKeyCredentialUserEntity.{PublicKeyCredentialUserEntity}
use Rattle.passkey_kinds.specs.Coded.{text, bytes}
use Rattle.passkey_kinds.specs.Words.{◌>>=◌, PlainTable, required_as, optional_as}
use Rattle.passkey_webauthn.specs.declared.rp.PublicKeyCredentialRpEntity as webauthn_rp
use Rattle.passkey_webauthn.specs.declared.user.PublicKeyCredentialUserEntity as webauthn_user

-- ---- relying parties in CTAP2's messages (CTAP 2.1, section 6.1)

abbrev pub rp : PlainTable PublicKeyCredentialRpEntity
rp = record {
  blank = record { id = []; name = None };
  members = required_as 1 (codes "id") text (λ r. r.id) (λ x r. record r { id = x })
      ∷ optional_as 2 (codes "name") text (λ r. r.name) (λ x r. record r { name = x })
      ∷ [];
}

-- ---- users in CTAP2's messages (CTAP 2.1, section 6.1)

abbrev pub user : PlainTable PublicKeyCredentialUserEntity
user = record {
  blank = record { id = []; name = None; display_name = None; icon_url = None };
  members = required_as 1 (codes "id") bytes (λ u. u.id) (λ x u. record u { id = x })
      ∷ optional_as 4 (codes "icon") text (λ u. u.icon_url) (λ x u. record u { icon_url = x })
      ∷ optional_as 2 (codes "name") text (λ u. u.name) (λ x u. record u { name = x })
      ∷ optional_as 3 (codes "displayName") text (λ u. u.display_name) (λ x u. record u { display_name = x })
      ∷ [];
}

-- ---- users and relying parties of CTAP2 messages, from those of WebAuthn and back (CTAP 2.1, section
-- 6.1; WebAuthn Level 3, section 5.4)

abbrev pub user_of_webauthn : webauthn_user.PublicKeyCredentialUserEntity → PublicKeyCredentialUserEntity
user_of_webauthn u = record { id = u.id; name = Some u.name; display_name = Some u.display_name; icon_url = None }

-- the user of WebAuthn, if both names are present
abbrev pub webauthn_of_user : PublicKeyCredentialUserEntity → Option webauthn_user.PublicKeyCredentialUserEntity
webauthn_of_user u = do
  display_name ← u.display_name
  name ← u.name
  Some (record { id = u.id; display_name = display_name; name = name })

-- the relying party of CTAP2, if there is an id
abbrev pub rp_with_id : Option (List ℕ) → List ℕ → Result PublicKeyCredentialRpEntity MissingRpId
rp_with_id (Some id) name = Ok (record { id = id; name = Some name })
rp_with_id None name = Err (record { rp_name = name })

abbrev pub rp_of_webauthn : webauthn_rp.PublicKeyCredentialRpEntity → Result PublicKeyCredentialRpEntity MissingRpId
rp_of_webauthn r = rp_with_id r.id r.name
