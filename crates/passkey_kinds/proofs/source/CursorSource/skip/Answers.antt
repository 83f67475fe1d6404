use Rattle.passkey_kinds.proofs.Steps.{arith, skipped_further}
use Rattle.passkey_kinds.proofs.source.CursorSource.skip.Goals as goal

pub returns-clause-passes : goal.returns-clause-passes
returns-clause-passes c = λ i to l. (c.skip.ensures.passes i to l).is_found

pub returns-clause-spends : goal.returns-clause-spends
returns-clause-spends c = λ i to l.
    let p = c.skip.ensures.passes i to l in
    grind (arith, p)

pub returns-clause-further : goal.returns-clause-further
returns-clause-further c = skipped_further _ _ c.skip.result c.skip.ensures.front
