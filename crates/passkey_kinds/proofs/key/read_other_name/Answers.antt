use Rattle.passkey_kinds.proofs.Steps.{◌∙◌, map, sym, ap, arith, true, false, entry_of, names, names_other, lent_spends, lent_less, stands_missed, further_from, looked_further, onward_of}
use Rattle.passkey_kinds.proofs.Keys.{none_of}
use Rattle.passkey_kinds.specs.Record.{Entry}
use Rattle.passkey_kinds.proofs.key.read_other_name.Goals as goal

pub with_text-requires-clause-other : goal.with_text-requires-clause-other
with_text-requires-clause-other c =
    let passed = c.in-Some.ensures.front in
    none_of (λ (e : Entry). e.name) (map entry_of c.args.rows.now) _ _ c.in-Some.token _ passed c.requires.none
    (omega (arith, c.place.ensures, c.place-start.ensures, passed.place))

pub returns-in-Some-clause-finds : goal.returns-in-Some-clause-finds
returns-in-Some-clause-finds c = λ b key to l.
    let f = c.in-Some.ensures.lends key to l in
    let spent = lent_spends key l c.in-Some.ensures.front f c.with_text.ensures.looks in
    record {
      is = c.with_text.ensures.names f.0 f.1.1.tells ∙ ap (names b (map entry_of c.args.rows.now)) (sym f.1.0);
      spends = spent.0;
      ends = spent.1;
    }

pub returns-in-Some-clause-further : goal.returns-in-Some-clause-further
returns-in-Some-clause-further c = looked_further _ _ _ _ true c.in-Some.ensures.front c.with_text.ensures.looks

pub returns-in-Some-bytes-clause-finds : goal.returns-in-Some-bytes-clause-finds
returns-in-Some-bytes-clause-finds c = λ b key to l.
    let e = c.in-None.ensures.lends key to l in
    let there = stands_missed key e.1 l in
    let f = c.in-Some-bytes.ensures.lends key to there in
    let spent = lent_less key there c.in-Some-bytes.ensures.front f c.with_bytes.ensures.looks in
    record {
      is = c.with_bytes.ensures.names f.0 f.1.1.tells ∙ ap (names b (map entry_of c.args.rows.now)) (sym f.1.0);
      spends = record {
        within = spent.0.within;
        heads = omega (arith, spent.0.heads, e.1.heads, e.1.place);
        nodes = omega (arith, spent.0.nodes, e.1.nodes);
      };
      ends = spent.1;
    }

pub returns-in-Some-bytes-clause-further : goal.returns-in-Some-bytes-clause-further
returns-in-Some-bytes-clause-further c =
    let missed = c.in-None.ensures in
    further_from _ _ _ (onward_of _ _ missed.moves) missed.front.place
    (looked_further _ _ _ _ false c.in-Some-bytes.ensures.front c.with_bytes.ensures.looks)

pub returns-in-None-bytes-clause-other : goal.returns-in-None-bytes-clause-other
returns-in-None-bytes-clause-other c = λ b key to l.
    let e = c.in-None.ensures.lends key to l in
    let f = c.in-None-bytes.ensures.lends key to (stands_missed key e.1 l) in
    names_other b (map entry_of c.args.rows.now) key e.0 f.0

pub returns-in-None-bytes-clause-misses : goal.returns-in-None-bytes-clause-misses
returns-in-None-bytes-clause-misses c = λ key to l.
    let e = c.in-None.ensures.lends key to l in
    let f = c.in-None-bytes.ensures.lends key to (stands_missed key e.1 l) in
    record {
      place = f.1.place ∙ e.1.place;
      heads = omega (arith, f.1.heads, e.1.heads);
      nodes = f.1.nodes ∙ e.1.nodes;
      bytes = f.1.bytes ∙ e.1.bytes;
    }
