use Rattle.std.proofs.Common.{rules, ◌≡◌, map, Some, sym}
use Rattle.passkey_cbor.specs.Item.{array, items_of}
use Rattle.passkey_cbor.specs.View.{item_of, pair_of}
use Rattle.passkey_cbor.proofs.building.Views.{item_of-Array}
use Rattle.passkey_cose.specs.KeyReading.{under}
use Rattle.passkey_cose.proofs.KeyLists.{ops_in-array}
use Rattle.passkey_cose.proofs.reading.read_ops_under.Goals as goal

pub returns-in_ok-read_ops-in-Some-Array : goal.returns-in_ok-read_ops-in-Some-Array
returns-in_ok-read_ops-in-Some-Array c =
    let here : under c.args.label (map pair_of c.args.members.now)
    ≡ Some (array (items_of (map item_of c.in-Some-Array.ops.items))) =
    search (rules, sym c.in-Some-Array.ensures, item_of-Array c.in-Some-Array.ops) in
    rw (here, ops_in-array (map item_of c.in-Some-Array.ops.items)) (search rules)
