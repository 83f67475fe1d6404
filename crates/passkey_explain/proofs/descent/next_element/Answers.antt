use Rattle.passkey_kinds.proofs.Steps.{◌∙◌, sym, item_of, mapped_at}
use Rattle.passkey_kinds.specs.Look.{tested}
use Rattle.passkey_explain.proofs.Blames.{look_accepts, element_accepted, element_refused}
use Rattle.passkey_explain.proofs.descent.next_element.Goals as goal

pub returns-then-not-branch : goal.returns-then-not-branch
returns-then-not-branch g c = λ t reaches of.
    let x = c.index-elements-index in
    let at = mapped_at item_of c.args.elements.now _ x.result x.is c.loop-index-test.true in
    let look = look_accepts c.args.way.now (tested g.M.FromCbor.typed) t _ c.look.result c.in_ok-look.field-0 reaches
    c.look.ensures c.in_ok-look.was in
    let no = sym look ∙ c.if-not-branch.true in
    sym (c.loop-index.invariant t reaches of ∙ element_refused t.accepts of c.loop-index.index _ _ _ at no)

pub loop-index-preserved : goal.loop-index-preserved
loop-index-preserved g c = λ t reaches of.
    let x = c.index-elements-index in
    let at = mapped_at item_of c.args.elements.now _ x.result x.is c.loop-index-test.true in
    let look = look_accepts c.args.way.now (tested g.M.FromCbor.typed) t _ c.look.result c.in_ok-look.field-0 reaches
    c.look.ensures c.in_ok-look.was in
    let yes = sym look ∙ c.if-not-branch.false in
    c.loop-index.invariant t reaches of ∙ element_accepted t.accepts of c.loop-index.index _ _ _ at yes
