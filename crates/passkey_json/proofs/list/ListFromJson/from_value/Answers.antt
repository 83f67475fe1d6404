use Rattle.std.proofs.Common.{◌∙◌}
use Rattle.passkey_json.proofs.Elements.{array_view, each_more, each_read, element_fails, next_item, no_memory}
use Rattle.passkey_json.proofs.list.ListFromJson.from_value.Goals as goal
use Rattle.passkey_json.specs.Kind.{list}

pub returns-in_err-read : goal.returns-in_err-read
returns-in_err-read g c =
    no_memory (list g.T.FromJson.kind) c.from_residual.result c.args.value.now c.in-Array.elements c.in-Array.is
    c.from_residual.ensures.1

pub returns-in_err-from_value : goal.returns-in_err-from_value
returns-in_err-from_value g c =
    let next = next_item c.deref-element-items.result.now c.loop-element.element-index c.element-item.result
    c.element-item.is c.loop-element-test.true in
    element_fails g.T.FromJson.kind c.in_err-from_value.field-0.0 g.T.FromJson.takes c.loop-element.read.items
    _ _ _ c.from_residual-in_err-from_value.result c.args.value.now c.in-Array.elements
    c.deref-element-items.result.now next
    c.in_err-from_value.ensures c.loop-element.invariant c.in-Array.is c.deref-element-items.ensures.value
    c.from_residual-in_err-from_value.ensures.1

pub returns-in_err-push : goal.returns-in_err-push
returns-in_err-push g c =
    no_memory (list g.T.FromJson.kind) c.from_residual-in_err-push.result c.args.value.now c.in-Array.elements
    c.in-Array.is c.from_residual-in_err-push.ensures.1

pub loop-element-preserved : goal.loop-element-preserved
loop-element-preserved g c =
    let next = next_item c.deref-element-items.result.now c.loop-element.element-index c.element-item.result
    c.element-item.is c.loop-element-test.true in
    each_more g.T.FromJson.kind c.loop-element.read.items _ c.in_ok-from_value.field-0 _ _ _ next
    c.in_ok-from_value.ensures c.in_ok-push.ensures.items ∙ c.loop-element.invariant

pub returns : goal.returns
returns g c =
    each_read g.T.FromJson.kind c.loop-element.read.items c.from.result c.deref-element-items.result.now
    c.loop-element.element-index _ c.loop-element-test.false c.loop-element.invariant
    (array_view c.args.value.now c.in-Array.elements _ c.in-Array.is c.deref-element-items.ensures.value)
    c.from.ensures
