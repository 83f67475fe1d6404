use Rattle.passkey_kinds.proofs.Steps.{onward_of, further_from, numbered, rules, false, refl, arith, sym, ap, option_and_then, algorithm_named, algorithm_from, stands_long, on_ok, lent_decodes, answers_from, scalar_decodes, scalar_ends, other_number, missed_then, stands_missed, looked_further}
use Rattle.passkey_kinds.proofs.algorithm.AlgorithmFromCbor.read.Goals as goal

pub returns-in-Some-clause-reads : goal.returns-in-Some-clause-reads
returns-in-Some-clause-reads c = λ i to l.
    let f = c.in-Some.ensures.lends i to l in
    lent_decodes algorithm_from false i (omega arith) l c.in-Some.ensures.front f c.whole_of.ensures.looks
    (answers_from (λ x. x) _ (ap (option_and_then algorithm_named) (sym (c.whole_of.ensures.whole f.0 f.1.1.tells)))
    (λ h. absurd h) c.named.ensures)

pub returns-in-None-clause-reads : goal.returns-in-None-clause-reads
returns-in-None-clause-reads c = λ i to l.
    let f = c.in-None.ensures.lends i to l in
    let named = answers_from (λ x. x) _ (ap (option_and_then algorithm_named) (sym c.integer.ensures)) (λ h. absurd h)
    c.named-in-None.ensures in
    missed_then f.1 (stands_long i l)
    (scalar_decodes numbered i refl (other_number i f.0) (c.read_scalar.ensures.reads i to (stands_missed i f.1 l)) named)

pub returns-in-None-clause-further : goal.returns-in-None-clause-further
returns-in-None-clause-further c =
    let on = c.in-None.ensures.moves in
    let named = answers_from (λ x. x) _ (ap (option_and_then algorithm_named) (sym c.integer.ensures)) (λ h. absurd h)
    c.named-in-None.ensures in
    scalar_ends _ numbered _ c.named-in-None.result refl named (λ is. further_from _ _ _ (onward_of _ _ on)
    (c.in-None.ensures.front.place) (c.read_scalar.ensures.further is))

pub returns-in-Some-clause-further : goal.returns-in-Some-clause-further
returns-in-Some-clause-further c =
    search (rules, on_ok, looked_further, c.whole_of.ensures.looks, c.in-Some.ensures.front)
