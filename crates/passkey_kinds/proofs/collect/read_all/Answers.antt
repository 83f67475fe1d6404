use Rattle.passkey_kinds.proofs.Steps.{counts_then, counts_more, arith, ◌∙◌, sym, refl, err_from_is_err_and, stopped, gone_on, onward_of, onward_then, failed, next_is, spent_within, some_are, one_more_done, each_done}
use Rattle.passkey_kinds.proofs.Counting.{rises}
use Rattle.passkey_kinds.proofs.collect.read_all.Goals as goal

pub returns-in_err-add-clause-reads : goal.returns-in_err-add-clause-reads
returns-in_err-add-clause-reads g c = λ xs to l.
    let p = err_from_is_err_and c.from_residual.result c.from_residual.ensures.1 in
    let b = c.more.new.self in
    let walks = c.loop-alloc-test.ensures.walks in
    let e = c.loop-alloc.invariant.each xs to l in
    let n = next_is e b (g.C.Collect.way.walked _ _ _ _ _ walks) in
    let added = c.in_err-add.ensures.adds n.first n.middle n.here in
    let some = some_are e b n in
    let spent = spent_within e b c.add.new.cursor walks.looks n (g.C.Collect.way.kept n.first) refl added.spends in
    grind (arith, failed, stopped, p, e, n, added, some, spent)

pub loop-alloc-preserved : goal.loop-alloc-preserved
loop-alloc-preserved g c = record {
  onward = onward_then _ _ _ (onward_then _ _ _ c.loop-alloc.invariant.onward
      (onward_of c.loop-alloc.cursor c.more.new.self c.loop-alloc-test.ensures.moves)) c.in_ok-add.ensures.onward;
  counts = counts_then _ _ _ (counts_then _ _ _ c.loop-alloc.invariant.counts
      (counts_more _ _ _ _ _ c.loop-alloc-test.ensures.walks.looks c.loop-alloc-test.ensures.moves.heads))
      c.in_ok-add.ensures.further.counts;
  each = λ xs to l.
      let b = c.more.new.self in
      let walks = c.loop-alloc-test.ensures.walks in
      let e = c.loop-alloc.invariant.each xs to l in
      let n = next_is e b (g.C.Collect.way.walked _ _ _ _ _ walks) in
      let added = c.in_ok-add.ensures.adds n.first n.middle n.here in
      let gone = gone_on g.C.Collect.way.next _ n.first e.rest n.others _ n.whole added.answers in
      one_more_done e b _ c.add.new.cursor walks.looks n (g.C.Collect.way.kept n.first) refl added.spends added.ends
      c.in_ok-add.ensures.onward.same (g.C.Collect.way.least n.first) refl
      (rises (onward_of c.loop-alloc.cursor b c.loop-alloc-test.ensures.moves)) added.counts (sym gone ∙ e.done);
}

pub returns-clause-reads : goal.returns-clause-reads
returns-clause-reads g c = λ xs to l.
    let walks = c.loop-alloc-test.ensures.walks in
    let ended = each_done (c.loop-alloc.invariant.each xs to l) c.more.new.self (g.C.Collect.way.walked _ _ _ _ _ walks)
    walks.looks (omega arith) refl (rises (onward_of c.loop-alloc.cursor c.more.new.self c.loop-alloc-test.ensures.moves)) in
    grind (arith, ended)

pub returns-clause-least : goal.returns-clause-least
returns-clause-least g c = λ xs to l.
    let walks = c.loop-alloc-test.ensures.walks in
    let ended = each_done (c.loop-alloc.invariant.each xs to l) c.more.new.self (g.C.Collect.way.walked _ _ _ _ _ walks)
    walks.looks (omega arith) refl (rises (onward_of c.loop-alloc.cursor c.more.new.self c.loop-alloc-test.ensures.moves)) in
    ended.counts

pub returns-clause-counts : goal.returns-clause-counts
returns-clause-counts g c = counts_then _ _ _ c.loop-alloc.invariant.counts
    (counts_more _ _ _ _ _ c.loop-alloc-test.ensures.walks.looks c.loop-alloc-test.ensures.moves.heads)
