use Rattle.std.specs.Prelude.{flat_map, take}
use Rattle.std.specs.Fmt.{HasWritten, IsPlainFormatter}
use Rattle.passkey_repair.specs.messages.Texts.{next_text}
use Rattle.passkey_repair.proofs.messages.repairs.write_keys.Given as goal

abbrev pub invariant-loop-key : goal.invariant-loop-key
invariant-loop-key g l =
    IsPlainFormatter l.fn.f
    → HasWritten g.W.Write.write_str_gives l.fn.f (flat_map next_text (take l.key-index l.keys)) l.f
