use Rattle.passkey_kinds.proofs.Steps.{ok_ends}
use Rattle.passkey_kinds.proofs.source.CursorSource.read.Goals as goal

pub returns-clause-answers : goal.returns-clause-answers
returns-clause-answers g c = λ i to l. (c.read.ensures.reads i to l).answers

pub returns-clause-spends : goal.returns-clause-spends
returns-clause-spends g c = λ i to l.
    let r = c.read.ensures.reads i to l in
    record { spends = r.spends; ends = ok_ends c.read.result r.ends; counts = c.read.ensures.counts i to l }
