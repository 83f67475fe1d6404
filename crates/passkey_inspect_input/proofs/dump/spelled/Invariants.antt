use Rattle.std.proofs.Common.{◌≡◌, ◌++◌, length}
use Rattle.passkey_inspect_input.specs.Dump.{spelled_from}
use Rattle.passkey_inspect_input.specs.declared.dump.Place.TheVariants.{Offset}
use Rattle.passkey_inspect_input.proofs.dump.spelled.Given as goal

abbrev pub invariant-loop-first : goal.invariant-loop-first
invariant-loop-first l = l.digits.items ++ spelled_from l.place l.rest ≡ spelled_from Offset l.fn.input

abbrev pub decreases-loop-first : goal.decreases-loop-first
decreases-loop-first l = length l.rest
