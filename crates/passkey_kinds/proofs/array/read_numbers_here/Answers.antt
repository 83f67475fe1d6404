use Rattle.passkey_kinds.proofs.Steps.{◌∙◌, ℕ, Spends, option_and_then, elements_in, full, sym, ap, subst, err_from_is_err_and, kept_none, filled_in, on_ok, fails_as, answers_from}
use Rattle.passkey_kinds.proofs.array.read_numbers_here.Goals as goal

pub returns-in_err-front-clause-reads : goal.returns-in_err-front-clause-reads
returns-in_err-front-clause-reads c = λ i to l.
    let p = err_from_is_err_and c.from_residual.result c.from_residual.ensures.1 in
    rw (p.1, p.2) (fails_as c.in_err-front.field-0.0 (kept_none _)
    (λ none. sym (filled_in 32 i c.no_bytes.ensures) ∙ ap (option_and_then (full 32)) none) (λ h. h)
    (c.in_err-front.ensures.reads i to l).decodes)

pub returns-clause-reads : goal.returns-clause-reads
returns-clause-reads c = λ i to l.
    let r = (c.in_ok-front.ensures.reads i to l).decodes in
    record {
      answers = answers_from _ c.whole.result (sym (filled_in 32 i c.no_bytes.ensures)
          ∙ ap (option_and_then (full 32)) r.answers) (λ h. absurd h) c.whole.ensures;
      spends = subst (λ (k : ℕ). Spends 2 k to c.args.cursor.now c.read_whole.new.cursor)
          (kept_none (elements_in i)) r.spends;
      ends = on_ok c.whole.result r.ends;
    }
