use Rattle.std.specs.List.{filter_map}
use Rattle.std.proofs.Common.{◌≡◌, ◌++◌, map, drop}
use Rattle.passkey_cbor.specs.View.{item_of}
use Rattle.passkey_iana.specs.Iana.{key_operation_named}
use Rattle.passkey_cose.specs.KeyReading.{name_in}
use Rattle.passkey_cose.specs.Registered.{named_of}
use Rattle.passkey_cose.proofs.reading.read_ops.Given as goal

abbrev pub invariant-loop-op : goal.invariant-loop-op
invariant-loop-op l =
    map named_of l.names.items ++ filter_map (name_in key_operation_named) (map item_of (drop l.op-index l.ops))
    ≡ filter_map (name_in key_operation_named) (map item_of l.ops)
