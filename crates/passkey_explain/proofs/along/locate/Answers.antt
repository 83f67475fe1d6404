use Rattle.std.proofs.Common.{arith, sym, subst, refl, ◌+◌, ◌≡◌, ◌-◌, ℕ, List, map}
use Rattle.std.proofs.lemmas.List.{length-map}
use Rattle.passkey_cbor.specs.EncodedAt.{IsEncodedAt}
use Rattle.passkey_kinds.proofs.Steps.{drop_all}
use Rattle.passkey_explain.specs.Blame.{step_of}
use Rattle.passkey_explain.proofs.Way.{way_begins, starts, step_taken, step_there, way_ends}
use Rattle.passkey_explain.specs.declared.blame.Step.TheVariants as code
use Rattle.passkey_explain.proofs.along.locate.Goals as goal

pub loop-step-init : goal.loop-step-init
loop-step-init c = λ i part len leads along.
    way_begins (map step_of c.args.path.now) _ i part len c.args.bytes.now _ c.new-cursor.ensures refl
    (starts i c.args.bytes.now len leads) along

pub loop-step-preserved : goal.loop-step-preserved
loop-step-preserved c = λ i part len leads along.
    let w = c.loop-step.invariant i part len leads along in
    let is = step_there c.args.path.now c.loop-step.step-index (code.Element 0) c.loop-step-test.true in
    (step_taken _ _ c.loop-step.cursor c.enter.new.cursor w is c.enter.result c.enter.ensures).1

pub returns-then-not-enter : goal.returns-then-not-enter
returns-then-not-enter c = λ i part len leads along.
    let w = c.loop-step.invariant i part len leads along in
    let is = step_there c.args.path.now c.loop-step.step-index (code.Element 0) c.loop-step-test.true in
    let yes = (step_taken _ _ c.loop-step.cursor c.enter.new.cursor w is c.enter.result c.enter.ensures).0 in
    let no = c.if-not-enter.true in
    absurd cc

pub returns-then-not-skip : goal.returns-then-not-skip
returns-then-not-skip c = λ i part len leads along.
    let w = c.loop-step.invariant i part len leads along in
    let there = subst (λ (bs : List ℕ). IsEncodedAt w.here bs c.loop-step.cursor.place w.to) (sym w.same) w.there in
    let no = (c.if-not-skip.ensures.passes w.here w.to there).is_found in
    absurd cc

pub returns : goal.returns
returns c = λ i part len leads along.
    let past = drop_all c.loop-step.step-index (map step_of c.args.path.now)
    (rw (length-map c.args.path.now step_of) c.loop-step-test.false) in
    let w = c.loop-step.invariant i part len leads along in
    let there = subst (λ (bs : List ℕ). IsEncodedAt w.here bs c.loop-step.cursor.place w.to) (sym w.same) w.there in
    let p = c.if-not-skip.ensures.passes w.here w.to there in
    let sum : c.place-offset.result + (c.place.result - c.place-offset.result) ≡ w.to =
    omega (arith, c.place.ensures, c.place-offset.ensures, p.place, w.there.forward) in
    way_ends w c.place-offset.result (c.place.result - c.place-offset.result) past c.place-offset.ensures sum
