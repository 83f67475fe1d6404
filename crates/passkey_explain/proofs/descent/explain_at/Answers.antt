use Rattle.passkey_kinds.proofs.Steps.{◌∙◌, ap, ℕ, List, item_of}
use Rattle.passkey_explain.proofs.Blames.{descent_begins, one_more_step, goes_into, less_left, ends_here, ends_at_key}
use Rattle.passkey_kinds.specs.Look.{tested}
use Rattle.passkey_kinds.specs.Shape.{reached}
use Rattle.passkey_explain.specs.declared.blame.Step.TheVariants as code
use Rattle.passkey_explain.proofs.descent.explain_at.Goals as goal

pub loop-way-init : goal.loop-way-init
loop-way-init g c = λ t at.
    descent_begins (tested g.M.FromCbor.typed) t (item_of c.args.value.now) c.new-path.result.items c.args.from.now _
    c.new-path.ensures.items c.in_ok-way.ensures.items at

pub loop-way-smaller : goal.loop-way-smaller
loop-way-smaller g c =
    let root = tested g.M.FromCbor.typed in
    less_left (c.loop-way.invariant c.requires.0 c.requires.1) c.in_ok-reason.field-0
    (λ t e. c.in_ok-reason.ensures t (ap (λ (w : List ℕ). reached w root) c.deref.ensures.value ∙ e)) c.in-Into.step
    c.in-Into.number c.in-Into.part c.in-Into.is _ c.in_ok-push-in-Into-2.ensures.items

pub loop-way-preserved : goal.loop-way-preserved
loop-way-preserved g c = λ t at.
    let root = tested g.M.FromCbor.typed in
    goes_into (c.loop-way.invariant t at) c.in_ok-reason.field-0
    (λ t e. c.in_ok-reason.ensures t (ap (λ (w : List ℕ). reached w root) c.deref.ensures.value ∙ e)) c.in-Into.step
    c.in-Into.number c.in-Into.part c.in-Into.is _ _
    (one_more_step c.loop-way.path.items _ c.in-Into.step c.in_ok-push-in-Into.ensures.items)
    c.in_ok-push-in-Into-2.ensures.items

pub returns-in-Here : goal.returns-in-Here
returns-in-Here g c = λ t at.
    let root = tested g.M.FromCbor.typed in
    ends_here (c.loop-way.invariant t at) c.in_ok-reason.field-0
    (λ u e. c.in_ok-reason.ensures u (ap (λ (w : List ℕ). reached w root) c.deref.ensures.value ∙ e)) c.in-Here.reason
    c.in-Here.is

pub returns-in-Key : goal.returns-in-Key
returns-in-Key g c = λ t at.
    let root = tested g.M.FromCbor.typed in
    ends_at_key (c.loop-way.invariant t at) c.in_ok-reason.field-0
    (λ u e. c.in_ok-reason.ensures u (ap (λ (w : List ℕ). reached w root) c.deref.ensures.value ∙ e)) c.in-Key.index
    c.in-Key.reason c.in-Key.is _
    (one_more_step c.loop-way.path.items _ (code.Key c.in-Key.index) c.in_ok-push-in-Key.ensures.items)
