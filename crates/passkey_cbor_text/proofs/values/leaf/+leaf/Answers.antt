use Rattle.std.proofs.Common.{◌∙◌}
use Rattle.json.specs.Value.{value_view}
use Rattle.passkey_cbor.specs.View.{item_of}
use Rattle.passkey_cbor_text.proofs.Gathering.{element_goes, element_stops, member_goes, member_stops, member_view, object_there, reads_as}
use Rattle.passkey_cbor_text.proofs.Indexed.{mapped_at}
use Rattle.passkey_cbor_text.proofs.Pairs.{pushed}
use Rattle.passkey_cbor_text.proofs.values.leaf.+leaf.Goals as goal

pub leaf-returns-in-Object : goal.leaf-returns-in-Object
leaf-returns-in-Object t c = reads_as item_of _ _ c.object.result
    (object_there c.args.form c.args.json.now c.in-Object.all c.deref-in-Object.result.now c.in-Object.is
    c.deref-in-Object.ensures.value)
    c.object.ensures

pub elements-returns-in-Err : goal.elements-returns-in-Err
elements-returns-in-Err t c =
    let x = c.index-all-index in
    let at = mapped_at value_view c.args.all.now _ x.result x.is c.loop-index-test.true in
    element_stops _ _ _ _ _ at _ c.in-Err.fault c.under.result c.loop-index.invariant c.in-Err.ensures c.under.ensures

pub elements-loop-index-preserved : goal.elements-loop-index-preserved
elements-loop-index-preserved t c =
    let x = c.index-all-index in
    let at = mapped_at value_view c.args.all.now _ x.result x.is c.loop-index-test.true in
    element_goes _ _ _ _ _ at _ _ c.in-Ok.ensures (pushed item_of _ _ _ c.in_ok-push-in-Ok.ensures.items)
    ∙ c.loop-index.invariant

pub members-returns-in-Err : goal.members-returns-in-Err
members-returns-in-Err t c =
    let x = c.index-all-index in
    let at = mapped_at member_view c.args.all.now _ x.result x.is c.loop-index-test.true in
    member_stops _ _ _ _ _ at _ c.in-Err.fault c.under.result c.loop-index.invariant (c.in-Err.ensures _ c.member.ensures)
    c.under.ensures

pub members-loop-index-preserved : goal.members-loop-index-preserved
members-loop-index-preserved t c =
    let x = c.index-all-index in
    let at = mapped_at member_view c.args.all.now _ x.result x.is c.loop-index-test.true in
    member_goes _ _ _ _ _ at _ (c.in-Ok.ensures _ c.member.ensures) ∙ c.loop-index.invariant
