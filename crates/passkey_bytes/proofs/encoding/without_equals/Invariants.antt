use Rattle.std.proofs.Common.{◌≡◌, length}
use Rattle.passkey_bytes.specs.Encoding.{without_equals}
use Rattle.passkey_bytes.proofs.encoding.without_equals.Given as goal

abbrev pub invariant-loop-last : goal.invariant-loop-last
invariant-loop-last l = without_equals l.rest ≡ without_equals l.text

abbrev pub decreases-loop-last : goal.decreases-loop-last
decreases-loop-last l = length l.rest
