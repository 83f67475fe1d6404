use Rattle.passkey_kinds.proofs.Steps.{counts_then, counts_more, rules, refl, arith, err_from_is_err_and, onward_of, onward_then, on_ok, next_is, spent_within, one_more_done, each_done, at_least, goes_on, fails, all_read}
use Rattle.passkey_kinds.proofs.Counting.{rises}
use Rattle.passkey_kinds.proofs.Common.{keeps_by, named, table_of}
use Rattle.passkey_kinds.specs.Kind.{least_of}
use Rattle.passkey_kinds.proofs.record.read_pairs_ahead.Goals as goal

pub loop-alloc-preserved : goal.loop-alloc-preserved
loop-alloc-preserved g c = record {
  onward = onward_then _ _ _ (onward_then _ _ _ c.loop-alloc.invariant.onward
      (onward_of c.loop-alloc.cursor c.more.new.self c.loop-alloc-test.ensures.moves)) c.in_ok-read_next.ensures.onward;
  counts = counts_then _ _ _ (counts_then _ _ _ c.loop-alloc.invariant.counts
      (counts_more _ _ _ _ _ c.loop-alloc-test.ensures.walks.looks c.loop-alloc-test.ensures.moves.heads))
      c.in_ok-read_next.ensures.further.counts;
  each = λ ms to l.
      let t = g.R.Record.fields in
      let b = c.more.new.self in
      let d = c.read_next.new.cursor in
      let e = c.loop-alloc.invariant.each ms to l in
      let n = next_is e b c.loop-alloc-test.ensures.walks.pairs in
      let one = c.in_ok-read_next.ensures.reads n.first n.middle n.here in
      one_more_done e b _ d c.loop-alloc-test.ensures.walks.looks n _ refl one.spends one.ends
      c.in_ok-read_next.ensures.onward.same
      (least_of (keeps_by t.rows (named (table_of t) n.first.0)) n.first.1) refl
      (rises (onward_of c.loop-alloc.cursor b c.loop-alloc-test.ensures.moves)) one.counts
      (goes_on _ ms e.rest n.others n.first _ _ _ n.whole refl e.done _ _ one.answers);
}

pub returns-in_err-read_next-clause-reads : goal.returns-in_err-read_next-clause-reads
returns-in_err-read_next-clause-reads g c = λ ms to l.
    let p = err_from_is_err_and c.from_residual.result c.from_residual.ensures.1 in
    let b = c.more.new.self in
    let d = c.read_next.new.cursor in
    let e = c.loop-alloc.invariant.each ms to l in
    let n = next_is e b c.loop-alloc-test.ensures.walks.pairs in
    let one = c.in_err-read_next.ensures.reads n.first n.middle n.here in
    let spent = spent_within e b d c.loop-alloc-test.ensures.walks.looks n _ refl one.spends in
    grind (arith, fails, p, e, n, one, spent)

pub returns-clause-reads : goal.returns-clause-reads
returns-clause-reads g c = λ ms to l.
    let walks = c.loop-alloc-test.ensures.walks in
    let e = c.loop-alloc.invariant.each ms to l in
    let ended = each_done e c.more.new.self walks.pairs walks.looks (omega (arith, at_least g.R.Record.fields.rows))
    refl (rises (onward_of c.loop-alloc.cursor c.more.new.self c.loop-alloc-test.ensures.moves)) in
    search (rules, all_read, on_ok, g.R.Record.fields, ended, c.finish.ensures)

pub returns-clause-counts : goal.returns-clause-counts
returns-clause-counts g c = on_ok c.finish.result (counts_then _ _ _ c.loop-alloc.invariant.counts
    (counts_more _ _ _ _ _ c.loop-alloc-test.ensures.walks.looks c.loop-alloc-test.ensures.moves.heads))
