use Rattle.std.proofs.Common.{take, string_bytes}
use Rattle.passkey_inspect.specs.LineByLine.{AppendsAnswers}
use Rattle.passkey_inspect.proofs.line_by_line.answer_ended.Given as goal

abbrev pub invariant-loop-byte : goal.invariant-loop-byte
invariant-loop-byte l = AppendsAnswers l.options (take l.byte-index l.bytes) l.fn.lines.pending.items l.lines.pending.items
    (string_bytes l.fn.lines.answers) (string_bytes l.lines.answers)
