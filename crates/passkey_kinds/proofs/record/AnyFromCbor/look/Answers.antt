use Rattle.passkey_kinds.proofs.Looks.{record_looks}
use Rattle.passkey_kinds.proofs.record.AnyFromCbor.look.Goals as goal

pub returns-in-None : goal.returns-in-None
returns-in-None g c =
    record_looks g.R.Record.fields g.R.Record.parts _ _ _ _ _ _ _ _ c.in-None.ensures.cases c.record_from_value.ensures
    c.nested_result.ensures c.is_numbered.ensures c.rows.ensures.rows c.looked.ensures
