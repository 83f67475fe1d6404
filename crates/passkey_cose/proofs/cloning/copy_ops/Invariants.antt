use Rattle.std.proofs.Common.{◌≡◌, map, take}
use Rattle.passkey_cose.specs.Registered.{named_of}
use Rattle.passkey_cose.proofs.cloning.copy_ops.Given as goal

abbrev pub invariant-loop-op : goal.invariant-loop-op
invariant-loop-op l = map named_of l.copies.items ≡ map named_of (take l.op-index l.ops)
