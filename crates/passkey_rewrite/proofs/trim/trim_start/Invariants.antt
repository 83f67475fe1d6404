use Rattle.std.proofs.Common.{◌≡◌, length}
use Rattle.passkey_rewrite.specs.Trimmed.{trimmed_start}
use Rattle.passkey_rewrite.proofs.trim.trim_start.Given as goal

abbrev pub invariant-loop-first : goal.invariant-loop-first
invariant-loop-first l = trimmed_start l.rest ≡ trimmed_start l.fn.text

abbrev pub decreases-loop-first : goal.decreases-loop-first
decreases-loop-first l = length l.rest
