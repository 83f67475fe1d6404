use Rattle.passkey_kinds.proofs.Steps.{arith, eased, stands_long, kept_record, may_grow, held_answers, held_ok}
use Rattle.passkey_kinds.proofs.Counting.{nested_ok, record_kept}
use Rattle.passkey_kinds.proofs.record.AnyFromCbor.read.Goals as goal

pub returns-clause-reads : goal.returns-clause-reads
returns-clause-reads g c = λ i to l.
    let r = c.read_record.ensures.reads i to l in
    grind (arith, held_answers, may_grow, eased, kept_record, stands_long, held_ok, r, c.nested_result.ensures)

pub returns-clause-counts : goal.returns-clause-counts
returns-clause-counts g c = λ i to l ok.
    let r = c.read_record.ensures.reads i to l in
    record_kept g.R.Record.fields i _ _ (nested_ok c.read_record.result c.nested_result.result
    c.nested_result.ensures ok r.counts)
