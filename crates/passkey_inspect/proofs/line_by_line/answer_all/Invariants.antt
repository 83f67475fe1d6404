use Rattle.std.proofs.Common.{◌≡◌, [], string_bytes}
use Rattle.passkey_inspect.proofs.Answering.{WritingAnswers}
use Rattle.passkey_inspect.proofs.line_by_line.answer_all.Given as goal

abbrev pub invariant-loop-read : goal.invariant-loop-read
invariant-loop-read g l = record {
  writing : WritingAnswers l.options (g.R.Read.remaining l.fn.reader) (g.R.Read.remaining l.reader)
      (g.W.Write.contents l.fn.writer) (g.W.Write.contents l.writer) l.lines.pending.items;
  empty : string_bytes l.lines.answers ≡ [];
}
