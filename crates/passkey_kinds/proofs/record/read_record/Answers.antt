use Rattle.passkey_kinds.proofs.Steps.{further_counted, members-pairs_of, arith, head_before, eased, stands_long, at_least, kept_pairs, members_are, reads_from, no_record}
use Rattle.passkey_kinds.proofs.Counting.{map_counts}
use Rattle.passkey_kinds.proofs.record.read_record.Goals as goal

pub returns-in-Some-clause-reads : goal.returns-in-Some-clause-reads
returns-in-Some-clause-reads g c = λ i to l.
    let t = g.R.Record.fields in
    let opened = c.in-Some.ensures.opens i to l in
    let ms = opened.0 in
    let is = members_are i ms opened.1.0 in
    let r = c.read_pairs_ahead.ensures.reads ms to opened.1.1 in
    let few = kept_pairs t ms i is in
    let some = at_least t.rows in
    let spent = c.in-Some.ensures.spends i to l in
    let on = c.in-Some.ensures.further in
    let counts = map_counts t c.read_pairs_ahead.result ms i _ is c.in-Some.ensures.onward r.counts in
    grind (arith, reads_from, members-pairs_of, head_before, is, r, few, some, spent, on, counts, c.in-Some.ensures.counted)

pub returns-in-None-clause-reads : goal.returns-in-None-clause-reads
returns-in-None-clause-reads g c = λ i to l.
    let o = c.in-None.ensures.opens i to l in
    let s = c.in-None.ensures.spends i to l in
    grind (arith, no_record, eased, stands_long, at_least, o, s)

pub returns-in-Some-clause-further : goal.returns-in-Some-clause-further
returns-in-Some-clause-further g c = further_counted _ c.read_pairs_ahead.result c.in-Some.ensures.further
    c.read_pairs_ahead.ensures.onward.forward c.read_pairs_ahead.ensures.counts
