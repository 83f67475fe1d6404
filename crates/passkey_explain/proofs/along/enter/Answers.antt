use Rattle.passkey_explain.proofs.Way.{opened, enough, enters}
use Rattle.passkey_explain.proofs.along.enter.Goals as goal
use Rattle.passkey_explain.specs.Along.{parts_of}
use Rattle.passkey_explain.specs.Blame.{step_of}

pub returns-in-Some : goal.returns-in-Some
returns-in-Some c = λ i part to l is.
    let s = step_of c.args.step.now in
    let o = c.in-Some.ensures.opens i to l in
    let e = opened c.in-Some.field-0 i to c.head.new.self o in
    let told = c.pass_items.ensures (parts_of i) e.0 e.1 (rw c.part_of.ensures (enough s i part is)) in
    enters s i part c.in-Some.field-0 to e.0 _ _ _ c.pass_items.result c.in-Some.ensures.found o is
    (rw c.part_of.ensures at told)

pub returns-in-None : goal.returns-in-None
returns-in-None c = λ i part to l is. absurd (c.in-None.ensures.opens i to l)
