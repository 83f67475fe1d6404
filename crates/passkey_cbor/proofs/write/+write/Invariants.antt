use Rattle.std.proofs.Common.{drop}
use Rattle.passkey_cbor.specs.View.{items_view, pairs_view}
use Rattle.passkey_cbor.proofs.items.Writing.{WritesItems, WritesPairs}
use Rattle.passkey_cbor.proofs.write.+write.Given as goal

abbrev pub invariant-push_array-loop-item : goal.invariant-push_array-loop-item
invariant-push_array-loop-item l =
    WritesItems (items_view l.items) (items_view (drop l.item-index l.items)) l.fn.out.items l.out.items

abbrev pub invariant-push_map-loop-key : goal.invariant-push_map-loop-key
invariant-push_map-loop-key l =
    WritesPairs (pairs_view l.pairs) (pairs_view (drop l.key-index l.pairs)) l.fn.out.items l.out.items
