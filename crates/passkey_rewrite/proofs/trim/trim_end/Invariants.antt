use Rattle.std.proofs.Common.{◌≡◌, length}
use Rattle.passkey_rewrite.specs.Trimmed.{trimmed_end}
use Rattle.passkey_rewrite.proofs.trim.trim_end.Given as goal

abbrev pub invariant-loop-last : goal.invariant-loop-last
invariant-loop-last l = trimmed_end l.rest ≡ trimmed_end l.fn.text

abbrev pub decreases-loop-last : goal.decreases-loop-last
decreases-loop-last l = length l.rest
