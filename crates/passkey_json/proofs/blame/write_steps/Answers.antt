use Rattle.std.proofs.Common.{rules}
use Rattle.passkey_json.proofs.BlameTexts.{next_written}
use Rattle.passkey_json.proofs.blame.write_steps.Goals as goal

pub loop-step-preserved : goal.loop-step-preserved
loop-step-preserved g c = next_written g.W.Write.write_str_gives c.args.f.now c.loop-step.f c.write_step.new.f
    c.write_step.result c.args.steps.now c.loop-step.step-index c.step-item.result c.loop-step-test.true c.step-item.is
    (search rules) c.loop-step.invariant c.write_step.ensures
