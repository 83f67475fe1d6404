use Rattle.std.proofs.Common.{map, drop}
use Rattle.passkey_cose.specs.KeyNames.{AreNames}
use Rattle.passkey_cose.specs.KeyParts.{op_item}
use Rattle.passkey_cose.specs.Registered.{named_of}
use Rattle.passkey_cose.proofs.names.ops_are_names.Given as goal

abbrev pub invariant-loop-op : goal.invariant-loop-op
invariant-loop-op l = AreNames (map op_item (map named_of (drop l.op-index l.ops)))
    → AreNames (map op_item (map named_of l.ops))
