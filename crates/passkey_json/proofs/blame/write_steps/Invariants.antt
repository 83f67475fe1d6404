use Rattle.std.specs.Prelude.{IfSome, take}
use Rattle.std.specs.Fmt.{HasWritten, IsPlainFormatter}
use Rattle.passkey_json.specs.BlameTexts.{steps_text}
use Rattle.passkey_json.proofs.blame.write_steps.Given as goal

abbrev pub invariant-loop-step : goal.invariant-loop-step
invariant-loop-step g l =
    IfSome (steps_text (take l.step-index l.steps)) (λ text. IsPlainFormatter l.fn.f
    → HasWritten g.W.Write.write_str_gives l.fn.f text l.f)
