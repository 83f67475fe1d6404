use Rattle.passkey_kinds.proofs.Steps.{◌∙◌, map, sym, ap, arith, false, entry_of, names, eased, stands_twice, stands_long, twice_spends, key_ends, further_from}
use Rattle.passkey_kinds.proofs.key.read_named.Goals as goal

pub returns-in-Some-clause-names : goal.returns-in-Some-clause-names
returns-in-Some-clause-names c = λ key to l.
    let r = c.in-Some.ensures.finds false key to l in
    record {
      is = r.is;
      spends = eased (omega arith) (omega arith) (omega (arith, stands_long key l)) r.spends;
      ends = r.ends;
    }

pub returns-in-None-clause-names : goal.returns-in-None-clause-names
returns-in-None-clause-names c = λ key to l.
    let es = map entry_of c.args.rows.now in
    let twice = c.in-None.ensures.misses key to l in
    let r = c.read_scalar.ensures.reads key to (stands_twice key twice l) in
    record {
      is = c.of_head.ensures ∙ ap (names false es) r.is ∙ sym (c.in-None.ensures.other false key to l);
      spends = twice_spends to _ _ _ twice (stands_long key l) r.spends;
      ends = key_ends false es _ c.of_head.result c.of_head.ensures r.ends;
    }

pub returns-in-None-clause-further : goal.returns-in-None-clause-further
returns-in-None-clause-further c =
    key_ends false (map entry_of c.args.rows.now) _ c.of_head.result c.of_head.ensures
    (λ is. further_from _ _ _ c.in-None.ensures.onward c.in-None.ensures.stays (c.read_scalar.ensures.further is))
