use Rattle.passkey_kinds.proofs.Steps.{refl, item_of}
use Rattle.passkey_kinds.proofs.Looks.{row_looks, row_part_looks}
use Rattle.passkey_kinds.proofs.look.look_at_row.Goals as goal

pub returns-in-None : goal.returns-in-None
returns-in-None g c =
    let i = item_of c.args.value.now in
    row_looks g.R.Record.fields _ i c.args.way.now _ _ c.put-put.result _ c.in_ok-source-in-None.field-0
    c.accepted_if.result c.in-None.ensures.cases c.in_ok-source-in-None.was (c.put-put.ensures.puts i 0 refl)
    (c.put-put.ensures.spends i 0 refl) c.accepted_if.ensures

pub returns : goal.returns
returns g c =
    let i = item_of c.args.value.now in
    row_part_looks g.R.Record.fields.rows _ c.args.way.now _ _ i _ c.in-Some.ensures.cases.0
    (c.put-put.ensures.spends i 0 refl)
