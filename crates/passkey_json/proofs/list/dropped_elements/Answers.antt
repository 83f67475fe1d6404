use Rattle.std.proofs.Common.{subst, sym}
use Rattle.passkey_json.proofs.Dropping.{Lists, all_listed, elements_end, next_elements, part_listed}
use Rattle.passkey_json.proofs.Elements.{array_view, next_item}
use Rattle.passkey_json.specs.Dropped.{AreDropped, dropped, dropped_elements, dropped_list, told, under}
use Rattle.passkey_json.specs.Shape.{element}
use Rattle.std.proofs.Common.{map}
use Rattle.serde_json.specs.Data.{Data}
use Rattle.serde_json.specs.View.{items_view, view}
use Rattle.passkey_json.proofs.list.dropped_elements.Goals as goal

pub loop-index-preserved : goal.loop-index-preserved
loop-index-preserved g c =
    let of = dropped g.T.FromJson.shape in
    let vs = c.deref-element-items.result.now in
    let next = next_item vs c.loop-index.index c.element-item.result c.element-item.is c.loop-index-test.true in
    part_listed _ (map (under (element c.loop-index.index)) (of (view c.element-item.result))) _ _ _
    (subst (λ left. Lists (dropped_elements of 0 (items_view vs)) left c.loop-index.dropped.items)
    (next_elements of c.loop-index.index _ _ _ next) c.loop-index.invariant)
    c.in_ok-append_as.ensures

pub returns : goal.returns
returns g c =
    let of = dropped g.T.FromJson.shape in
    let vs = c.deref-element-items.result.now in
    let seen = array_view c.args.value.now c.in-Array.elements vs c.in-Array.is c.deref-element-items.ensures.value in
    subst (λ (d : Data). AreDropped (dropped_list of d) (map told c.loop-index.dropped.items)) (sym seen)
    (all_listed _ _ c.loop-index.dropped.items (elements_end of vs c.loop-index.index c.loop-index-test.false)
    c.loop-index.invariant)
