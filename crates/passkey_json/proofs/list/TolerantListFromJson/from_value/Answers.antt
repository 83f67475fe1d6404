use Rattle.std.proofs.Common.{◌∙◌, refl}
use Rattle.passkey_json.proofs.Elements.{accepted_less, accepted_more, accepted_read, array_view, next_item, no_memory}
use Rattle.passkey_json.proofs.list.TolerantListFromJson.from_value.Goals as goal
use Rattle.passkey_json.proofs.list.TolerantListFromJson.from_value.Goals.{in-Ok+in_ok-push-in-Ok, in-Err-Refused}
use Rattle.passkey_json.specs.Kind.{accepted}

pub returns-in_err-push-in-Ok : goal.returns-in_err-push-in-Ok
returns-in_err-push-in-Ok g c =
    no_memory (accepted g.T.FromJson.kind) c.from_residual.result c.args.value.now c.in-Array.elements
    c.in-Array.is c.from_residual.ensures.1

pub loop-element-preserved : goal.loop-element-preserved
loop-element-preserved g c =
    let next = next_item c.deref-element-items.result.now c.loop-element.element-index c.element-item.result
    c.element-item.is c.loop-element-test.true in
    elim c.match-from_value.branch [
      | in-Ok+in_ok-push-in-Ok w ↦
          let grown = w.in_ok-push-in-Ok.ensures.items in
          accepted_more g.T.FromJson.kind c.loop-element.read.items _ w.in-Ok.accepted _ _ _ next w.in-Ok.ensures
          (rw w.read-is grown) ∙ c.loop-element.invariant
      | in-Err-Refused w ↦
          let none = rw w.in-Err-Refused.field-0-is at w.in-Err-Refused.ensures in
          accepted_less g.T.FromJson.kind c.loop-element.read.items _ _ _ _ next none (rw w.read-is refl)
          ∙ c.loop-element.invariant
    ]

pub returns : goal.returns
returns g c =
    accepted_read g.T.FromJson.kind c.loop-element.read.items c.from.result c.deref-element-items.result.now
    c.loop-element.element-index _ c.loop-element-test.false c.loop-element.invariant
    (array_view c.args.value.now c.in-Array.elements _ c.in-Array.is c.deref-element-items.ensures.value)
    c.from.ensures
