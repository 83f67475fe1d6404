-- Relying parties, users and credentials in CTAP2's messages, by the standard alone (CTAP 2.2, sections 6.1 and 6.2;
-- WebAuthn Level 3, sections 5.4 and 5.8.3), and options of requests.
use Rattle.std.specs.Prelude.{[], ◌∷◌, None, codes}
use Rattle.passkey_kinds.specs.Coded.{list_of, text, truth}
use Rattle.passkey_kinds.specs.Words.{PlainTable, required_as}
use Rattle.passkey_registered.specs.Exact.{exact_bytes, present_as}
use Rattle.passkey_registered.specs.declared.entities.descriptor.CredentialDescriptor.{CredentialDescriptor}
use Rattle.passkey_registered.specs.declared.entities.options.RequestOptions.{RequestOptions}
use Rattle.passkey_registered.specs.declared.entities.rp.RpEntity.{RpEntity}
use Rattle.passkey_registered.specs.declared.entities.user.UserEntity.{UserEntity}

abbrev pub rp : PlainTable RpEntity
rp = record {
  blank = record { id = []; name = None };
  members = required_as 1 (codes "id") text (λ r. r.id) (λ x r. record r { id = x })
      ∷ present_as 2 (codes "name") text (λ r. r.name) (λ x r. record r { name = x })
      ∷ [];
}

abbrev pub user : PlainTable UserEntity
user = record {
  blank = record { id = []; name = None; display_name = None };
  members = required_as 1 (codes "id") exact_bytes (λ u. u.id) (λ x u. record u { id = x })
      ∷ present_as 2 (codes "name") text (λ u. u.name) (λ x u. record u { name = x })
      ∷ present_as 3 (codes "displayName") text (λ u. u.display_name) (λ x u. record u { display_name = x })
      ∷ [];
}

abbrev pub descriptor : PlainTable CredentialDescriptor
descriptor = record {
  blank = record { id = []; ty = []; transports = None };
  members = required_as 1 (codes "id") exact_bytes (λ d. d.id) (λ x d. record d { id = x })
      ∷ required_as 2 (codes "type") text (λ d. d.ty) (λ x d. record d { ty = x })
      ∷ present_as 3 (codes "transports") (list_of text) (λ d. d.transports) (λ x d. record d { transports = x })
      ∷ [];
}

abbrev pub request_options : PlainTable RequestOptions
request_options = record {
  blank = record { rk = None; up = None; uv = None };
  members = present_as 1 (codes "rk") truth (λ o. o.rk) (λ x o. record o { rk = x })
      ∷ present_as 2 (codes "up") truth (λ o. o.up) (λ x o. record o { up = x })
      ∷ present_as 3 (codes "uv") truth (λ o. o.uv) (λ x o. record o { uv = x })
      ∷ [];
}
