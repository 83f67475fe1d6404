use Rattle.passkey_kinds.proofs.Steps.{further_counted, ap, arith, kept_parts, decodes_in, after_head, eased, stands_long}
use Rattle.std.proofs.Math.Nat.{mul-le-mul_left}
use Rattle.passkey_kinds.proofs.Counting.{parts_counts}
use Rattle.passkey_kinds.proofs.collect.read_whole.Goals as goal

pub returns-in-Some-clause-reads : goal.returns-in-Some-clause-reads
returns-in-Some-clause-reads g c = λ i to l.
    let w = g.C.Collect.way in
    let o = c.in-Some.ensures.opens i to l in
    let r = c.read_all.ensures.reads o.0 to o.1.1 in
    let few = ap (kept_parts w.kept) o.1.0 in
    let spent = c.in-Some.ensures.spends i to l in
    let grows = w.grows i o.0 o.1.0 in
    let counts = parts_counts w.least _ (w.parts i) o.0 _ o.1.0 c.in-Some.ensures.onward (c.read_all.ensures.least o.0 to o.1.1) in
    grind (arith, decodes_in, after_head, o, r, few, spent, grows, counts, c.in-Some.ensures.further, c.in-Some.ensures.counted)

pub returns-in-None-clause-reads : goal.returns-in-None-clause-reads
returns-in-None-clause-reads g c = λ i to l.
    let o = c.in-None.ensures.opens i to l in
    let s = c.in-None.ensures.spends i to l in
    let long = stands_long i l in
    grind (arith, mul-le-mul_left, eased, o, s, long, c.in-None.ensures.counted)

pub returns-in-Some-clause-further : goal.returns-in-Some-clause-further
returns-in-Some-clause-further g c = further_counted _ c.read_all.result c.in-Some.ensures.further
    c.read_all.ensures.onward.forward c.read_all.ensures.counts
