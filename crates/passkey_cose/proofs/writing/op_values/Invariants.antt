use Rattle.std.proofs.Common.{◌≡◌, map, take}
use Rattle.passkey_cbor.specs.View.{item_of}
use Rattle.passkey_cose.specs.KeyParts.{op_item}
use Rattle.passkey_cose.specs.Registered.{named_of}
use Rattle.passkey_cose.proofs.writing.op_values.Given as goal

abbrev pub invariant-loop-op : goal.invariant-loop-op
invariant-loop-op l = map item_of l.values.items ≡ map op_item (map named_of (take l.op-index l.ops))
