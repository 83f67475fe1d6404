use Rattle.passkey_core.specs.DataReading.{read_map, ReadsItem}
use Rattle.passkey_explain_data.proofs.DataLength.{item_ends, where_ends}
use Rattle.passkey_explain_data.proofs.measuring.after_extensions_where.Goals as goal

pub returns-then-is_there : goal.returns-then-is_there
returns-then-is_there c =
    where_ends c.args.is_there (ReadsItem read_map) c.args.rest.now c.after_item.result.now c.if-is_there.true
    (item_ends read_map c.args.rest.now c.after_item.result.now c.after_item.ensures)
