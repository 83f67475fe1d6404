use Rattle.std.proofs.Common.{drop}
use Rattle.passkey_cbor.specs.Depth.{items_depth, pairs_depth}
use Rattle.passkey_cbor.specs.View.{items_view, pairs_view}
use Rattle.passkey_cbor.proofs.items.Deepest.{IsDeepest}
use Rattle.passkey_cbor.proofs.depth.+depth.Given as goal

abbrev pub invariant-items_depth_of-loop-item : goal.invariant-items_depth_of-loop-item
invariant-items_depth_of-loop-item l =
    IsDeepest l.deepest (items_depth (items_view (drop l.item-index l.items))) (items_depth (items_view l.items))

abbrev pub invariant-pairs_depth_of-loop-key : goal.invariant-pairs_depth_of-loop-key
invariant-pairs_depth_of-loop-key l =
    IsDeepest l.deepest (pairs_depth (pairs_view (drop l.key-index l.pairs))) (pairs_depth (pairs_view l.pairs))
