use Rattle.passkey_kinds.proofs.Steps.{length, AddsUpTo}
use Rattle.passkey_kinds.proofs.algorithm.whole_of.Given as goal

abbrev pub invariant-loop-piece : goal.invariant-loop-piece
invariant-loop-piece l = AddsUpTo l.token l.pieces l.fn.cursor l.cursor l.number

abbrev pub decreases-loop-piece : goal.decreases-loop-piece
decreases-loop-piece l = length l.pieces.bytes
