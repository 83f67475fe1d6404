use Rattle.passkey_kinds.proofs.Steps.{on_ok, looked_further, true, rules, false, sym, arith, name_from, named_text, no_text, lent_decodes, not_lent_decodes, or_refused}
use Rattle.passkey_kinds.proofs.names.read_other_named.Goals as goal
use Rattle.passkey_kinds.proofs.Keys.{none_of}
use Rattle.passkey_webauthn.specs.Names.{value_in}

pub named-requires-clause-none : goal.named-requires-clause-none
named-requires-clause-none g c = λ κs lives.
    let passed = c.in-Some.ensures.front in
    none_of (λ n. n.0) g.T.EnumNames.table _ _ c.in-Some.token _ passed c.requires.none
    (omega (arith, c.place.ensures, c.place-start.ensures, passed.place))

pub returns-in-Some-clause-reads : goal.returns-in-Some-clause-reads
returns-in-Some-clause-reads g c = λ i to l.
    let f = c.in-Some.ensures.lends i to l in
    lent_decodes (name_from (value_in g.T.EnumNames.table)) false i (omega arith) l c.in-Some.ensures.front f
    c.named.ensures.looks
    (or_refused _ c.named.result c.ok_or.result _ (sym (c.named.ensures.named f.0 f.1.1.tells)) c.ok_or.ensures.value)

pub returns-in-None-clause-reads : goal.returns-in-None-clause-reads
returns-in-None-clause-reads g c = λ i to l.
    let f = c.in-None.ensures.lends i to l in
    search (rules, not_lent_decodes, named_text, no_text, f)

pub returns-in-Some-clause-further : goal.returns-in-Some-clause-further
returns-in-Some-clause-further g c =
    on_ok c.ok_or.result (looked_further _ _ _ _ true c.in-Some.ensures.front c.named.ensures.looks)
