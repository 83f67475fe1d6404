use Rattle.std.proofs.Common.{◌≡◌, [], drop, map}
use Rattle.json.specs.Value.{items_of, items_view, members_of, members_view, value_view}
use Rattle.passkey_cbor.specs.View.{item_of, pair_of}
use Rattle.passkey_cbor_text.proofs.Gathering.{member_view}
use Rattle.passkey_cbor_text.specs.values.JsonItem.{elements_item, members_item}
use Rattle.passkey_cbor_text.proofs.values.leaf.+leaf.Given as goal

abbrev pub invariant-elements-loop-index : goal.invariant-elements-loop-index
invariant-elements-loop-index l =
    elements_item (map item_of l.found.items) l.index (items_of (drop l.index (map value_view l.all)))
    ≡ elements_item [] 0 (items_view l.all)

abbrev pub invariant-members-loop-index : goal.invariant-members-loop-index
invariant-members-loop-index l =
    members_item (map pair_of l.found.items) l.index (members_of (drop l.index (map member_view l.all)))
    ≡ members_item [] 0 (members_view l.all)
