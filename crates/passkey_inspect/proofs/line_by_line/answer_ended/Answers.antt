use Rattle.std.proofs.Common.{get_or, sym, subst, string_bytes, take, ◌∷◌, []}
use Rattle.std.proofs.lemmas.List.{take_more}
use Rattle.passkey_inspect.specs.LineByLine.{AppendsAnswers}
use Rattle.passkey_inspect.proofs.Answering.{answers_more}
use Rattle.passkey_inspect.proofs.line_by_line.answer_ended.Goals as goal

pub loop-byte-preserved : goal.loop-byte-preserved
loop-byte-preserved c =
    let o = c.args.options.now in
    let bytes = c.args.bytes.now in
    let at = c.loop-byte.byte-index in
    let old = c.args.lines.now in
    let now = c.loop-byte.lines in
    let new = c.take_byte.new.lines in
    subst
    (λ it. AppendsAnswers o it old.pending.items new.pending.items (string_bytes old.answers) (string_bytes new.answers))
    (sym (take_more bytes at 0 c.loop-byte-test.true))
    (answers_more o (take at bytes) (get_or bytes at 0 ∷ []) old.pending.items now.pending.items new.pending.items
    (string_bytes old.answers) (string_bytes now.answers) (string_bytes new.answers)
    c.loop-byte.invariant c.in_ok-take_byte.ensures)
