-- authenticatorLargeBlobs responses (CTAP 2.1, section 6.10).
use Rattle.std.specs.Prelude.{None, [], codes, ◌∷◌}
use Rattle.passkey_kinds.specs.Coded.{bytes}
use Rattle.passkey_kinds.specs.Words.{PlainTable, optional_at}
use Rattle.passkey_commands.specs.declared.large_blobs.response.Response.{Response}

abbrev pub lb_response : PlainTable Response
lb_response = record {
  blank = record { config = None };
  members = optional_at 1 (codes "config") bytes (λ r. r.config) (λ x r. record r { config = x })
      ∷ [];
}
