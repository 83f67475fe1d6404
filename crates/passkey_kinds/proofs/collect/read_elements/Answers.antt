use Rattle.passkey_kinds.proofs.Steps.{arith, ◌∙◌, sym, refl, item_of, err_from_is_err_and, failed, stopped, gone_on, mapped_at}
use Rattle.passkey_kinds.proofs.collect.read_elements.Goals as goal

pub loop-element-preserved : goal.loop-element-preserved
loop-element-preserved g c =
    let at = mapped_at item_of c.args.elements.now c.loop-element.element-index c.element-item.result c.element-item.is
    c.loop-element-test.true in
    sym (gone_on g.G.Gather.gathering.next _ _ _ _ _ at (c.in_ok-add.ensures.adds (item_of c.element-item.result) 0 refl))
    ∙ c.loop-element.invariant

pub returns-in_err-add : goal.returns-in_err-add
returns-in_err-add g c =
    let p = err_from_is_err_and c.from_residual.result c.from_residual.ensures.1 in
    let at = mapped_at item_of c.args.elements.now c.loop-element.element-index c.element-item.result
    c.element-item.is c.loop-element-test.true in
    let told = c.in_err-add.ensures.adds (item_of c.element-item.result) 0 refl in
    grind (arith, failed, stopped, p, at, told, c.loop-element.invariant, c.loop-element-test.true)
