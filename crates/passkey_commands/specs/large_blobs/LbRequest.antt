-- authenticatorLargeBlobs requests (CTAP 2.1, section 6.10).
use Rattle.std.specs.Prelude.{None, [], codes, ◌∷◌}
use Rattle.passkey_kinds.specs.Coded.{bytes}
use Rattle.passkey_kinds.specs.Numbered.{long}
use Rattle.passkey_kinds.specs.Words.{PlainTable, byte, optional_at, required_at}
use Rattle.passkey_commands.specs.declared.large_blobs.request.Request.{Request}

abbrev pub lb_request : PlainTable Request
lb_request = record {
  blank = record { get = None; set = None; offset = 0; length = None; pin_uv_auth_param = None; pin_uv_auth_protocol = None };
  members = optional_at 1 (codes "get") long (λ r. r.get) (λ x r. record r { get = x })
      ∷ optional_at 2 (codes "set") bytes (λ r. r.set) (λ x r. record r { set = x })
      ∷ required_at 3 (codes "offset") long (λ r. r.offset) (λ x r. record r { offset = x })
      ∷ optional_at 4 (codes "length") long (λ r. r.length) (λ x r. record r { length = x })
      ∷ optional_at 5 (codes "pinUvAuthParam") bytes (λ r. r.pin_uv_auth_param) (λ x r. record r { pin_uv_auth_param = x })
      ∷ optional_at 6 (codes "pinUvAuthProtocol") byte (λ r. r.pin_uv_auth_protocol)
      (λ x r. record r { pin_uv_auth_protocol = x })
      ∷ [];
}
