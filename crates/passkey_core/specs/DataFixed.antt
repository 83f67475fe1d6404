-- What all authenticator data begin with.
use Rattle.std.specs.Prelude.{Some}
use Rattle.passkey_core.specs.DataParts.{DataParts, bare_data}
use Rattle.passkey_core.specs.declared.authenticator_data.reading.Fixed.{Fixed}

abbrev pub fixed_parts : Fixed → DataParts
fixed_parts f = bare_data f.rp_id_hash f.flags.0 (Some f.counter)
