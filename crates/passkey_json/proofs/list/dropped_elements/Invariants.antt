use Rattle.std.proofs.Common.{drop}
use Rattle.passkey_json.proofs.Dropping.{Lists}
use Rattle.passkey_json.specs.Dropped.{dropped, dropped_elements}
use Rattle.serde_json.specs.View.{items_view}
use Rattle.passkey_json.proofs.list.dropped_elements.Given as goal

abbrev pub invariant-loop-index : goal.invariant-loop-index
invariant-loop-index g l =
    let of = dropped g.T.FromJson.shape in
    Lists (dropped_elements of 0 (items_view l.element-items))
    (dropped_elements of l.index (items_view (drop l.index l.element-items))) l.dropped.items
