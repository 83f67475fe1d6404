use Rattle.passkey_kinds.proofs.Steps.{further_from, further_ok, onward_of, copied_further, ◌∙◌, true, false, Some, sym, ap, arith, err_from_is_err_and, bytes_from, stands_long, on_ok, looks_all, looks_some, lent_decodes, bytes_grow, answers_from, missed_then, stands_missed, looked_further, bytes_are, elements_in, number_from, kept_none, list_in}
use Rattle.passkey_kinds.proofs.bytes.BytesFromCbor.read.Goals as goal

pub returns-in_err-copy-clause-reads : goal.returns-in_err-copy-clause-reads
returns-in_err-copy-clause-reads c = λ i to l.
    let p = err_from_is_err_and c.from_residual.result c.from_residual.ensures.1 in
    let f = c.in-Some.ensures.lends i to l in
    let copied = c.in_err-copy.ensures in
    rw (p.1, p.2) (lent_decodes bytes_from true i (omega arith) l c.in-Some.ensures.front f
    (looks_some copied.rises false (f.0, f.1.1.tells) copied.looks) (bytes_grow f.0 (copied.copies f.0 f.1.1.tells)))

pub returns-in-Some-clause-reads : goal.returns-in-Some-clause-reads
returns-in-Some-clause-reads c = λ i to l.
    let f = c.in-Some.ensures.lends i to l in
    let copied = c.in_ok-copy.ensures in
    lent_decodes bytes_from true i (omega arith) l c.in-Some.ensures.front f
    (looks_all copied.rises false (f.0, f.1.1.tells) copied.looks)
    (ap Some (sym (c.from.ensures ∙ copied.copies f.0 f.1.1.tells)))

pub returns-in-Some-text-clause-reads : goal.returns-in-Some-text-clause-reads
returns-in-Some-text-clause-reads c = λ i to l.
    let e = c.in_default.ensures.lends i to l in
    let there = stands_missed i e.1 l in
    let f = c.in-Some-text.ensures.lends i to there in
    missed_then e.1 (stands_long i l)
    (lent_decodes bytes_from true i (omega arith) there c.in-Some-text.ensures.front f c.read_base64.ensures.looks
    (c.read_base64.ensures.answers f.0 f.1.1.tells))

pub returns-in-Some-text-clause-further : goal.returns-in-Some-text-clause-further
returns-in-Some-text-clause-further c =
    let missed = c.in_default.ensures in
    on_ok c.read_base64.result (further_from _ _ _ (onward_of _ _ missed.moves) missed.front.place
    (looked_further _ _ _ _ true c.in-Some-text.ensures.front c.read_base64.ensures.looks))

pub returns-in-Some-clause-further : goal.returns-in-Some-clause-further
returns-in-Some-clause-further c =
    let copied = c.in_ok-copy.ensures in
    copied_further _ _ _ _ false c.in-Some.ensures.front copied.looks copied.rises

pub returns-clause-further : goal.returns-clause-further
returns-clause-further c =
    let read = c.in_default.ensures in
    let text = c.in_default-text.ensures in
    further_ok _ c.read_whole.result (onward_of _ _ read.moves) read.front.place
    (further_ok _ c.read_whole.result (onward_of _ _ text.moves) text.front.place c.read_whole.ensures.further)

pub returns-clause-reads : goal.returns-clause-reads
returns-clause-reads c = λ i to l.
    let e = c.in_default.ensures.lends i to l in
    let there = stands_missed i e.1 l in
    let t = c.in_default-text.ensures.lends i to there in
    let r = c.read_whole.ensures.reads i to (stands_missed i t.1 there) in
    let all = list_in (number_from 256) i c.empty.ensures in
    record {
      answers = answers_from _ c.read_whole.result (bytes_are i e.0 t.0 ∙ sym all) (λ h. h) r.decodes.answers;
      spends = record {
        within = r.decodes.spends.within;
        heads = omega (arith, r.heads, e.1.heads, e.1.place, t.1.heads, t.1.place, stands_long i l);
        nodes = omega (arith, r.decodes.spends.nodes, kept_none (elements_in i), e.1.nodes, t.1.nodes);
      };
      ends = r.decodes.ends;
    }
