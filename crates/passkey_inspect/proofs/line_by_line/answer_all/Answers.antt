use Rattle.std.proofs.Common.{arith, sym, subst, string_bytes, take}
use Rattle.std.specs.Io.KnownBytes.{Consumes}
use Rattle.passkey_inspect.specs.LineByLine.{AppendsAnswers, AppendsLast}
use Rattle.passkey_inspect.proofs.Answering.{WritingAnswers, writing_all, writing_more}
use Rattle.passkey_inspect.proofs.line_by_line.answer_all.Goals as goal

pub returns-in-Ok-eq0 : goal.returns-in-Ok-eq0
returns-in-Ok-eq0 g c =
    let o = c.args.options.now in
    let unread = g.R.Read.remaining c.loop-read.reader in
    let rest = g.R.Read.remaining c.read.new.self in
    let left = c.loop-read.lines.pending.items in
    let text = string_bytes c.answer_last.new.lines.answers in
    let none = c.in-Ok-eq0.field-0-test in
    let read = c.in-Ok-eq0.ensures.bytes in
    writing_all o (g.R.Read.remaining c.args.reader.now) unread rest (g.W.Write.contents c.args.writer.now)
    (g.W.Write.contents c.loop-read.writer) (g.W.Write.contents c.write_answers.new.writer) left text
    (subst (λ n. Consumes unread rest (take n c.read.new.buf)) none read.0) (read.1 none (omega (arith, c.read.auto.buf)))
    (subst (λ it. AppendsLast o left it text) c.loop-read.invariant.empty c.in_ok-answer_last-in-Ok-eq0.ensures)
    c.in_ok-write_answers-in-Ok-eq0.ensures.written c.loop-read.invariant.writing

pub loop-read-preserved : goal.loop-read-preserved
loop-read-preserved g c =
    let o = c.args.options.now in
    let input = g.R.Read.remaining c.args.reader.now in
    let unread = g.R.Read.remaining c.loop-read.reader in
    let rest = g.R.Read.remaining c.read.new.self in
    let before = g.W.Write.contents c.args.writer.now in
    let after = g.W.Write.contents c.write_answers-in-loop-read.new.writer in
    let left = c.loop-read.lines.pending.items in
    let following = c.answer_ended.new.lines.pending.items in
    let text = string_bytes c.answer_ended.new.lines.answers in
    let bytes = take c.in-Ok.n c.read.new.buf in
    record {
      writing = subst (WritingAnswers o input rest before after) (sym c.in_ok-write_answers.ensures.pending)
          (writing_more o input unread rest before (g.W.Write.contents c.loop-read.writer) after bytes left following text
          c.in-Ok.ensures.bytes.0
          (subst (λ it. AppendsAnswers o bytes left following it text) c.loop-read.invariant.empty
          c.in_ok-answer_ended-in-Ok.ensures)
          c.in_ok-write_answers.ensures.written c.loop-read.invariant.writing);
      empty = c.in_ok-write_answers.ensures.cleared;
    }
