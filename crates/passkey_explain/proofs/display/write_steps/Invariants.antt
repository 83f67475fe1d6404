use Rattle.std.specs.Prelude.{false, flat_map, map, take}
use Rattle.std.specs.Fmt.{HasWritten, IsPlainFormatter}
use Rattle.passkey_explain.specs.Blame.{step_of}
use Rattle.passkey_explain.specs.Texts.{step_text}
use Rattle.passkey_explain.proofs.display.write_steps.Given as goal

abbrev pub invariant-loop-step : goal.invariant-loop-step
invariant-loop-step g l =
    IsPlainFormatter l.fn.f
    → HasWritten g.W.Write.write_str_gives l.fn.f (flat_map (step_text false) (map step_of (take l.step-index l.steps)))
    l.f
