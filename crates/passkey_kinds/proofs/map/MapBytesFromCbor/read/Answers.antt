use Rattle.passkey_kinds.proofs.Steps.{ok_ends, arith, ◌∙◌, ap, map_values, map_values-empty, kept_members_in, map_in}
use Rattle.passkey_kinds.proofs.Counting.{members_kept}
use Rattle.passkey_kinds.proofs.map.MapBytesFromCbor.read.Goals as goal

pub returns-clause-reads : goal.returns-clause-reads
returns-clause-reads g c = λ i to l.
    let r = (c.read_whole.ensures.reads i to l).decodes in
    let begun = map_in g.T.FromCbor.typed.of i
    (ap (map_values g.T.FromCbor.view) c.empty.ensures ∙ map_values-empty g.T.FromCbor.view) in
    let kept = kept_members_in g.T.FromCbor.typed.keeps i in
    grind (arith, r, begun, kept)

pub returns-clause-counts : goal.returns-clause-counts
returns-clause-counts g c = λ i to l ok.
    members_kept g.T.FromCbor.typed.keeps i _ _ (ok_ends c.read_whole.result (c.read_whole.ensures.reads i to l).counts ok)
