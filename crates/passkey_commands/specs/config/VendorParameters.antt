-- Parameters of vendorPrototype (CTAP 2.1, section 6.11.3).
use Rattle.std.specs.Prelude.{[], codes, ◌∷◌}
use Rattle.passkey_commands.specs.declared.config.vendor_parameters.VendorParameters.{VendorParameters}
use Rattle.passkey_kinds.specs.Numbered.{long}
use Rattle.passkey_kinds.specs.Words.{PlainTable, required_at}

abbrev pub vendor_parameters : PlainTable VendorParameters
vendor_parameters = record {
  blank = record { vendor_command_id = 0 };
  members = required_at 1 (codes "vendorCommandId") long (λ r. r.vendor_command_id) (λ x r. record r { vendor_command_id = x })
      ∷ [];
}
