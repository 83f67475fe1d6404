use Rattle.std.proofs.Common.{◌≡◌, ◌+◌, ◌-◌, arith}
use Rattle.passkey_explain.proofs.dropping.pass.Goals as goal

pub returns-clause-passes : goal.returns-clause-passes
returns-clause-passes c = λ i to l.
    let p = c.skip.ensures.passes i to l in
    let from = c.place-offset.result in
    let sum : from + (c.place.result - from) ≡ to =
    omega (arith, c.place.ensures, c.place-offset.ensures, p.place, l.forward) in
    (c.place-offset.ensures, sum, p.place)
