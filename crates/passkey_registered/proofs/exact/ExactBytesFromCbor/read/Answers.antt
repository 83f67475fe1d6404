use Rattle.passkey_kinds.proofs.Steps.{copied_further, bytes_grow, rules, ◌∙◌, true, false, Some, sym, ap, arith, err_from_is_err_and, looks_all, looks_some, lent_decodes, not_lent_decodes}
use Rattle.passkey_registered.proofs.ExactValues.{no_exact_bytes}
use Rattle.passkey_registered.specs.Exact.{exact_bytes_from}
use Rattle.passkey_registered.proofs.exact.ExactBytesFromCbor.read.Goals as goal

pub returns-in_err-copy-in-Some-clause-reads : goal.returns-in_err-copy-in-Some-clause-reads
returns-in_err-copy-in-Some-clause-reads c = λ i to l.
    let p = err_from_is_err_and c.from_residual.result c.from_residual.ensures.1 in
    let f = c.in-Some.ensures.lends i to l in
    let copied = c.in_err-copy-in-Some.ensures in
    rw (p.1, p.2) (lent_decodes exact_bytes_from true i (omega arith) l c.in-Some.ensures.front f
    (looks_some copied.rises false (f.0, f.1.1.tells) copied.looks) (bytes_grow f.0 (copied.copies f.0 f.1.1.tells)))

pub returns-in_ok-copy-in-Some-clause-reads : goal.returns-in_ok-copy-in-Some-clause-reads
returns-in_ok-copy-in-Some-clause-reads c = λ i to l.
    let f = c.in-Some.ensures.lends i to l in
    let copied = c.in_ok-copy-in-Some.ensures in
    lent_decodes exact_bytes_from true i (omega arith) l c.in-Some.ensures.front f
    (looks_all copied.rises false (f.0, f.1.1.tells) copied.looks)
    (ap Some (sym (c.from.ensures ∙ copied.copies f.0 f.1.1.tells)))

pub returns-in-None-clause-reads : goal.returns-in-None-clause-reads
returns-in-None-clause-reads c = λ i to l.
    let f = c.in-None.ensures.lends i to l in
    search (rules, not_lent_decodes, no_exact_bytes, f)

pub returns-in_ok-copy-in-Some-clause-further : goal.returns-in_ok-copy-in-Some-clause-further
returns-in_ok-copy-in-Some-clause-further c =
    let copied = c.in_ok-copy-in-Some.ensures in
    copied_further _ _ _ _ false c.in-Some.ensures.front copied.looks copied.rises
