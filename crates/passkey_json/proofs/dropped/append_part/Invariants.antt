use Rattle.std.proofs.Common.{◌≡◌, ◌++◌, map}
use Rattle.passkey_json.specs.Blame.{step_of}
use Rattle.passkey_json.specs.Dropped.{told, told_under}
use Rattle.passkey_json.proofs.dropped.append_part.Given as goal

abbrev pub invariant-loop-inner : goal.invariant-loop-inner
invariant-loop-inner l =
    map told l.dropped.items ≡ map told l.fn.dropped.items ++ map (told_under (step_of l.step)) (map told l.yielded)
