use Rattle.std.specs.List.{list_any}
use Rattle.std.proofs.Common.{◌≡◌, map, drop}
use Rattle.passkey_cbor.specs.Same.{item_eq}
use Rattle.passkey_cose.specs.KeyParts.{op_item}
use Rattle.passkey_cose.specs.Registered.{named_of}
use Rattle.passkey_cose.proofs.with.is_written_among.Given as goal

abbrev pub invariant-loop-other : goal.invariant-loop-other
invariant-loop-other l =
    list_any (item_eq (op_item (named_of l.op))) (map op_item (map named_of (drop l.other-index l.ops)))
    ≡ list_any (item_eq (op_item (named_of l.op))) (map op_item (map named_of l.ops))
