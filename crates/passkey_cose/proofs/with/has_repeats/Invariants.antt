use Rattle.std.proofs.Common.{◌≡◌, length, map}
use Rattle.passkey_cose.specs.KeyParts.{op_item}
use Rattle.passkey_cose.specs.KeyWith.{has_repeat}
use Rattle.passkey_cose.specs.Registered.{named_of}
use Rattle.passkey_cose.proofs.with.has_repeats.Given as goal

abbrev pub invariant-loop-op : goal.invariant-loop-op
invariant-loop-op l = has_repeat (map op_item (map named_of l.rest)) ≡ has_repeat (map op_item (map named_of l.ops))

abbrev pub decreases-loop-op : goal.decreases-loop-op
decreases-loop-op l = length l.rest
