use Rattle.passkey_kinds.proofs.Steps.{ok_ends, arith, map, ap, kept_elements_in, accepted_in}
use Rattle.passkey_kinds.proofs.Counting.{elements_kept}
use Rattle.passkey_kinds.specs.Kind.{if_accepted}
use Rattle.passkey_kinds.proofs.list.TolerantListFromCbor.read.Goals as goal

pub returns-clause-reads : goal.returns-clause-reads
returns-clause-reads g c = λ i to l.
    let r = (c.read_whole.ensures.reads i to l).decodes in
    let begun = accepted_in g.T.FromCbor.typed.of i (ap (map g.T.FromCbor.view) c.empty.ensures) in
    let kept = kept_elements_in (if_accepted g.T.FromCbor.typed.of g.T.FromCbor.typed.keeps) i in
    grind (arith, r, begun, kept)

pub returns-clause-counts : goal.returns-clause-counts
returns-clause-counts g c = λ i to l ok.
    elements_kept (if_accepted g.T.FromCbor.typed.of g.T.FromCbor.typed.keeps) i _ _ (ok_ends c.read_whole.result (c.read_whole.ensures.reads i to l).counts ok)
