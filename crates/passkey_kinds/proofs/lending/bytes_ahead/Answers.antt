use Rattle.std.specs.Option.{option_and_then}
use Rattle.passkey_kinds.proofs.Steps.{◌∙◌, ap, sym, subst, Option, List, ℕ, table_of}
use Rattle.passkey_kinds.specs.Lending.{string_in, LendsWanted}
use Rattle.passkey_kinds.proofs.Finding.{string_is, string_is_not, lends_wanted}
use Rattle.passkey_kinds.proofs.lending.bytes_ahead.Goals as goal

pub returns-then-not-find_value : goal.returns-then-not-find_value
returns-then-not-find_value g c = λ i to l.
    let o = c.in-Some.ensures.opens i to l in
    string_is (table_of g.R.Record.fields) c.args.number i o.0 o.1.0
    ∙ ap (option_and_then string_in) (c.if-not-find_value.ensures.finds o.0 to o.1.1)

pub returns-in-None : goal.returns-in-None
returns-in-None g c = λ i to l.
    string_is_not (table_of g.R.Record.fields) c.args.number i (c.in-None.ensures.opens i to l)

pub returns-else-not-find_value : goal.returns-else-not-find_value
returns-else-not-find_value g c = λ i to l.
    let o = c.in-Some.ensures.opens i to l in
    let f = c.if-not-find_value.ensures.finds o.0 to o.1.1 in
    let is = string_is (table_of g.R.Record.fields) c.args.number i o.0 o.1.0
    ∙ ap (option_and_then string_in) f.2.0 in
    subst (λ (wanted : Option (List ℕ)). LendsWanted wanted c.bytes.result) (sym is)
    (lends_wanted f.0 f.1 _ _ c.bytes.result (c.bytes.ensures.lends f.0 f.1 f.2.1))
