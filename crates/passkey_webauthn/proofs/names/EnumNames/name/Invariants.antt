use Rattle.std.proofs.Common.{◌≡◌, drop, map}
use Rattle.passkey_webauthn.proofs.names.EnumNames.name.Given as goal
use Rattle.passkey_webauthn.specs.Names.{name_in, row_of}

abbrev pub invariant-loop-text : goal.invariant-loop-text
invariant-loop-text g l = name_in g.Self.PartialEq.eq g.Self.EnumNames.table l.self
    ≡ name_in g.Self.PartialEq.eq (map row_of (drop l.text-index l.text-items)) l.self
