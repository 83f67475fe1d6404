use Rattle.std.proofs.Common.{take}
use Rattle.std.specs.Fmt.{HasWritten, IsPlainFormatter}
use Rattle.passkey_repair.specs.json.Texts.{around_text}
use Rattle.passkey_repair.proofs.json.repair.RepairDisplay.fmt.Given as goal

abbrev pub invariant-loop-name : goal.invariant-loop-name
invariant-loop-name g l =
    IsPlainFormatter l.fn.f
    → HasWritten g.W.Write.write_str_gives l.fn.f (around_text (take l.name-index l.name-items)) l.f
