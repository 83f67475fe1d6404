use Rattle.std.proofs.Common.{◌≡◌, length}
use Rattle.passkey_inspect_input.specs.Input.{begins_json}
use Rattle.passkey_inspect_input.proofs.begins_json.Given as goal

abbrev pub invariant-loop-first : goal.invariant-loop-first
invariant-loop-first l = begins_json l.rest ≡ begins_json l.fn.input

abbrev pub decreases-loop-first : goal.decreases-loop-first
decreases-loop-first l = length l.rest
