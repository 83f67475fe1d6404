use Rattle.std.proofs.Common.{arith, Some, None, true, false, ◌≡◌, ◌∙◌, ap, length}
use Rattle.passkey_view.proofs.Placed.{skipped_on}
use Rattle.passkey_view.proofs.Walking.{looks_first, passed_next, not_read, looks_on, value_there, finds_first, none_has_it}
use Rattle.passkey_view.proofs.member.value_ahead.Goals as goal

pub loop-left-init : goal.loop-left-init
loop-left-init g c = λ ms to l. looks_first _ ms to _ _ l

pub returns-in-None : goal.returns-in-None
returns-in-None g c = λ ms to l.
    absurd (not_read (passed_next _ ms _ _ to {k = c.pass.new.cursor} {found = None}
    (c.loop-left.invariant ms to l) c.loop-left-test.ensures.walks.pairs c.loop-left-test.ensures.walks.looks
    c.in-None.ensures.passes))

pub returns-then-found : goal.returns-then-found
returns-then-found g c = λ ms to l.
    let n = passed_next _ ms _ _ to {k = c.pass.new.cursor} {found = Some c.in-Some.found}
    (c.loop-left.invariant ms to l) c.loop-left-test.ensures.walks.pairs c.loop-left-test.ensures.walks.looks
    c.in-Some.ensures.passes in
    finds_first c.if-found.true n _ c.view_ahead.ensures.view

pub returns-then-not-skip : goal.returns-then-not-skip
returns-then-not-skip g c = λ ms to l.
    let n = passed_next _ ms _ _ to {k = c.pass.new.cursor} {found = Some c.in-Some.found}
    (c.loop-left.invariant ms to l) c.loop-left-test.ensures.walks.pairs c.loop-left-test.ensures.walks.looks
    c.in-Some.ensures.passes in
    let p = c.if-not-skip.ensures.passes n.value n.value_end (value_there n) in
    let found = p.is_found in
    absurd cc

pub loop-left-smaller : goal.loop-left-smaller
loop-left-smaller g c =
    omega (
      arith,
      skipped_on _ _ c.if-not-skip.ensures.front,
      c.more.ensures.moves.forward,
      c.pass.ensures.moves.forward,
      c.skip.ensures.moves.within,
      ap length c.more.ensures.moves.same,
      ap length c.pass.ensures.moves.same,
      ap length c.skip.ensures.moves.same,
    )

pub loop-left-preserved : goal.loop-left-preserved
loop-left-preserved g c = λ ms to l.
    let n = passed_next _ ms _ _ to {k = c.pass.new.cursor} {found = Some c.in-Some.found}
    (c.loop-left.invariant ms to l) c.loop-left-test.ensures.walks.pairs c.loop-left-test.ensures.walks.looks
    c.in-Some.ensures.passes in
    looks_on c.if-found.false n (c.if-not-skip.ensures.passes n.value n.value_end (value_there n))

pub returns : goal.returns
returns g c = λ ms to l.
    none_has_it c.more.new.left c.more.new.self (c.loop-left.invariant ms to l) c.loop-left-test.ensures.walks.pairs
