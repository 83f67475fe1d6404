-- Parameters of subcommands of authenticatorCredentialManagement (CTAP 2.1, section 6.8).
use Rattle.std.specs.Prelude.{None, [], codes, ◌∷◌}
use Rattle.passkey_commands.specs.declared.credential_management.parameters.Parameters.{Parameters}
use Rattle.passkey_extensions.specs.Entities.{user}
use Rattle.passkey_kinds.specs.Coded.{bytes}
use Rattle.passkey_kinds.specs.Words.{PlainTable, optional_at, plain}
use Rattle.passkey_kinds.specs.Words.{descriptor}

abbrev pub cm_parameters : PlainTable Parameters
cm_parameters = record {
  blank = record { rp_id_hash = None; credential_id = None; user = None };
  members = optional_at 1 (codes "rpIDHash") bytes (λ r. r.rp_id_hash) (λ x r. record r { rp_id_hash = x })
      ∷ optional_at 2 (codes "credentialID") (plain descriptor) (λ r. r.credential_id) (λ x r. record r { credential_id = x })
      ∷ optional_at 3 (codes "user") (plain user) (λ r. r.user) (λ x r. record r { user = x })
      ∷ [];
}
