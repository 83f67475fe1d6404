use Rattle.std.proofs.Common.{◌≡◌, drop, map}
use Rattle.passkey_webauthn.proofs.names.EnumNames.from_name.Given as goal
use Rattle.passkey_webauthn.specs.Names.{row_of, value_in}

abbrev pub invariant-loop-text : goal.invariant-loop-text
invariant-loop-text g l = value_in g.Self.EnumNames.table l.name
    ≡ value_in (map row_of (drop l.text-index l.text-items)) l.name
