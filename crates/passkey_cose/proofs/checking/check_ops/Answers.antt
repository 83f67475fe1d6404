use Rattle.std.proofs.Common.{rules, ◌<◌, map, length}
use Rattle.std.proofs.lemmas.List.{length-map}
use Rattle.passkey_cbor.specs.View.{item_of}
use Rattle.passkey_cbor.proofs.building.Views.{item_of-Array}
use Rattle.passkey_cose.proofs.KeyLists.{ops_fault-array}
use Rattle.passkey_cose.proofs.checking.check_ops.Goals as goal

pub returns-else-is_empty : goal.returns-else-is_empty
returns-else-is_empty c =
    let some : 0 < length (map item_of c.in-Array.ops.items) = rw (length-map) (search rules) in
    rw (c.in-Array.is, item_of-Array c.in-Array.ops, ops_fault-array (map item_of c.in-Array.ops.items) some)
    (search rules)
