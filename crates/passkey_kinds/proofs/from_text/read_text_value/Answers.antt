use Rattle.passkey_kinds.proofs.Steps.{on_ok, looked_further, rules, true, Some, arith, name_from, named_text, no_text, lent_decodes, not_lent_decodes}
use Rattle.passkey_kinds.proofs.from_text.read_text_value.Goals as goal

pub returns-in-Some-clause-reads : goal.returns-in-Some-clause-reads
returns-in-Some-clause-reads g c = λ i to l.
    let f = c.in-Some.ensures.lends i to l in
    lent_decodes (name_from (λ s. Some (g.T.FromText.of_text s))) true i (omega arith) l c.in-Some.ensures.front f
    c.text_value.ensures.looks (c.text_value.ensures.answers f.0 f.1.1.tells)

pub returns-in-None-clause-reads : goal.returns-in-None-clause-reads
returns-in-None-clause-reads g c = λ i to l.
    let f = c.in-None.ensures.lends i to l in
    search (rules, not_lent_decodes, named_text, no_text, f)

pub returns-in-Some-clause-further : goal.returns-in-Some-clause-further
returns-in-Some-clause-further g c =
    on_ok c.text_value.result (looked_further _ _ _ _ true c.in-Some.ensures.front c.text_value.ensures.looks)
