use Rattle.passkey_kinds.proofs.Steps.{sym, map, item_of, pair_of}
use Rattle.passkey_explain.proofs.Blames.{record_next, no_record}
use Rattle.passkey_explain.proofs.descent.next_in_record.Goals as goal

pub returns-in-Some : goal.returns-in-Some
returns-in-Some g c = λ t reaches h.
    let table = c.args.table.now in
    record_next t table.is_numbered table.rows (item_of c.args.value.now) (map pair_of c.in-Some.pairs.now) _ _ _
    reaches (sym c.in-Some.ensures) h c.next_pair.ensures.blames c.next_pair.ensures.into

pub returns-in-None : goal.returns-in-None
returns-in-None g c = λ t reaches h.
    let table = c.args.table.now in
    no_record t table.is_numbered table.rows (item_of c.args.value.now) h (sym c.in-None.ensures)
