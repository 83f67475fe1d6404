use Rattle.passkey_kinds.proofs.Steps.{looked_further, rules, arith, false, err_from_is_err_and, aaguid_from, no_aaguid, lent_decodes, not_lent_decodes}
use Rattle.passkey_kinds.proofs.data.AaguidFromCbor.read.Goals as goal

pub returns-in_err-filled-in-Some-clause-reads : goal.returns-in_err-filled-in-Some-clause-reads
returns-in_err-filled-in-Some-clause-reads c = λ i to l.
    let p = err_from_is_err_and c.from_residual.result c.from_residual.ensures.1 in
    let f = c.in-Some.ensures.lends i to l in
    let filled = c.in_err-filled-in-Some.ensures in
    rw (p.1, p.2) (lent_decodes aaguid_from false i (omega arith) l c.in-Some.ensures.front f filled.looks
    (filled.answers f.0 f.1.1.tells))

pub returns-in_ok-filled-in-Some-clause-reads : goal.returns-in_ok-filled-in-Some-clause-reads
returns-in_ok-filled-in-Some-clause-reads c = λ i to l.
    let f = c.in-Some.ensures.lends i to l in
    let filled = c.in_ok-filled-in-Some.ensures in
    lent_decodes aaguid_from false i (omega arith) l c.in-Some.ensures.front f filled.looks
    (filled.answers f.0 f.1.1.tells)

pub returns-in-None-clause-reads : goal.returns-in-None-clause-reads
returns-in-None-clause-reads c = λ i to l.
    let f = c.in-None.ensures.lends i to l in
    search (rules, not_lent_decodes, no_aaguid, f)

pub returns-in_ok-filled-in-Some-clause-further : goal.returns-in_ok-filled-in-Some-clause-further
returns-in_ok-filled-in-Some-clause-further c =
    looked_further _ _ _ _ false c.in-Some.ensures.front c.in_ok-filled-in-Some.ensures.looks
