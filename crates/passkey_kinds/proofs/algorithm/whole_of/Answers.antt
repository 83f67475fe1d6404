use Rattle.passkey_kinds.proofs.Steps.{arith, adds_one, adds_all, adds_looks}
use Rattle.passkey_kinds.proofs.algorithm.whole_of.Goals as goal

pub loop-piece-preserved : goal.loop-piece-preserved
loop-piece-preserved c =
    adds_one c.loop-piece.invariant c.in-Some.ensures.looks c.push.new.self c.in-Some.ensures.piece c.push.ensures

pub returns-clause-whole : goal.returns-clause-whole
returns-clause-whole c =
    adds_all c.loop-piece.invariant c.in_default.ensures.looks c.in_default.ensures.piece c.whole.result
    c.whole.ensures

pub returns-clause-looks : goal.returns-clause-looks
returns-clause-looks c =
    adds_looks c.loop-piece.invariant c.in_default.ensures.looks c.in_default.ensures.piece c.requires (omega arith)
