use Rattle.std.proofs.Common.{◌<◌, length, arith}
use Rattle.passkey_kinds.proofs.Steps.{item_of-Map}
use Rattle.passkey_attestation.proofs.Views.{not_none}
use Rattle.passkey_attestation.proofs.statement.none_from_value.Goals as goal

pub returns-else-is_empty : goal.returns-else-is_empty
returns-else-is_empty c =
    let some : 0 < length c.in-Map.members.items = grind (arith, c.if-is_empty.false, c.is_empty.ensures) in
    rw (c.in-Map.is, item_of-Map c.in-Map.members) (not_none c.in-Map.members.items some)
