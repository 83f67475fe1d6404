use Rattle.passkey_kinds.proofs.Steps.{rules, refl, ◌∙◌, ap, sym, table_of}
use Rattle.passkey_kinds.proofs.Finding.{next_ahead, value_here, row_here, passed}
use Rattle.passkey_kinds.specs.Lending.{value_among}
use Rattle.passkey_kinds.proofs.lending.find_value.Goals as goal

pub loop-left-preserved : goal.loop-left-preserved
loop-left-preserved g c = record {
  onward = search rules;
  each = λ ms to l.
      let w = next_ahead (table_of g.R.Record.fields) c.args.number ms to (c.loop-left.invariant.each ms to l)
      c.loop-left-test.ensures.walks c.is_numbered.ensures c.rows.ensures.rows c.in-Some.ensures.names
      c.in-Some.ensures.onward.same in
      passed (sym c.is_row.ensures ∙ c.if-is_row.false) w (c.if-not-skip.ensures.passes w.value w.middle w.there);
}

pub returns-in_default-clause-finds : goal.returns-in_default-clause-finds
returns-in_default-clause-finds g c = λ ms to l.
    (next_ahead (table_of g.R.Record.fields) c.args.number ms to (c.loop-left.invariant.each ms to l)
    c.loop-left-test.ensures.walks c.is_numbered.ensures c.rows.ensures.rows c.in_default.ensures.names
    c.in_default.ensures.onward.same).same

pub returns-then-is_row-clause-finds : goal.returns-then-is_row-clause-finds
returns-then-is_row-clause-finds g c = λ ms to l.
    let w = next_ahead (table_of g.R.Record.fields) c.args.number ms to (c.loop-left.invariant.each ms to l)
    c.loop-left-test.ensures.walks c.is_numbered.ensures c.rows.ensures.rows c.in-Some.ensures.names
    c.in-Some.ensures.onward.same in (
      w.value,
      w.middle,
      (
        w.same ∙ value_here _ c.in-Some.key w.value _ (sym c.is_row.ensures ∙ c.if-is_row.true),
        w.there,
      ),
    )

pub returns-then-is_row-clause-lies : goal.returns-then-is_row-clause-lies
returns-then-is_row-clause-lies g c = λ ms to l is.
    let w = next_ahead (table_of g.R.Record.fields) c.args.number ms to (c.loop-left.invariant.each ms to l)
    c.loop-left-test.ensures.walks c.is_numbered.ensures c.rows.ensures.rows c.in-Some.ensures.names
    c.in-Some.ensures.onward.same in
    (w.middle, w.lies _ _ (row_here _ c.in-Some.key _ _ (sym c.is_row.ensures ∙ c.if-is_row.true) (refl, refl)))

pub returns-then-not-skip-clause-finds : goal.returns-then-not-skip-clause-finds
returns-then-not-skip-clause-finds g c = λ ms to l.
    let w = next_ahead (table_of g.R.Record.fields) c.args.number ms to (c.loop-left.invariant.each ms to l)
    c.loop-left-test.ensures.walks c.is_numbered.ensures c.rows.ensures.rows c.in-Some.ensures.names
    c.in-Some.ensures.onward.same in
    let p = c.if-not-skip.ensures.passes w.value w.middle w.there in
    let no = p.is_found in
    absurd cc

pub returns-clause-finds : goal.returns-clause-finds
returns-clause-finds g c = λ ms to l.
    let e = c.loop-left.invariant.each ms to l in
    e.same ∙ ap (value_among (table_of g.R.Record.fields) c.args.number)
    (c.loop-left-test.ensures.walks.pairs e.rest to e.ahead).0
