use Rattle.std.proofs.Common.{◌≡◌, length}
use Rattle.passkey_inspect_input.specs.Dump.{begins_with}
use Rattle.passkey_inspect_input.proofs.dump.begins_with.Given as goal

abbrev pub invariant-loop-first : goal.invariant-loop-first
invariant-loop-first l = begins_with l.wanted l.rest ≡ begins_with l.fn.prefix l.fn.input

abbrev pub decreases-loop-first : goal.decreases-loop-first
decreases-loop-first l = length l.wanted
