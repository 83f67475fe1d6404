use Rattle.passkey_kinds.proofs.Steps.{map, arith, true, entry_of, eased, stands_long, stands_missed, number_then, further_some}
use Rattle.passkey_kinds.proofs.key.read_numbered.Goals as goal

pub returns-in-Some-clause-names : goal.returns-in-Some-clause-names
returns-in-Some-clause-names c = λ key to l.
    let r = c.in-Some.ensures.finds key to l in
    record {
      is = r.is;
      spends = eased (omega arith) (omega arith) (omega (arith, stands_long key l)) r.spends;
      ends = r.ends;
    }

pub returns-in-None-clause-names : goal.returns-in-None-clause-names
returns-in-None-clause-names c = λ key to l.
    let once = c.in-None.ensures.misses in
    let there = stands_missed key once l in
    let name = c.read_name.ensures in
    number_then (map entry_of c.args.rows.now) key to _ _ _ c.read_name.result once (stands_long key l)
    (c.in-None.ensures.other key to l) (name.finds true key to there) (name.other true key to there)
    (name.misses key to there)

pub returns-in-None-clause-further : goal.returns-in-None-clause-further
returns-in-None-clause-further c = further_some _ _ _ c.read_name.result c.in-None.ensures.onward
    c.in-None.ensures.misses.place c.read_name.ensures.further
