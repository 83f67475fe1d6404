use Rattle.std.proofs.Common.{ap}
use Rattle.passkey_json.proofs.Dropping.{all_listed, next_row}
use Rattle.passkey_json.proofs.Tables.{at_end, row_is}
use Rattle.passkey_json.specs.Dropped.{dropped_rows}
use Rattle.passkey_json.specs.Table.{rows_in}
use Rattle.serde_json.specs.View.{view}
use Rattle.passkey_json.proofs.plain_json_record.AnyFromJson.dropped.Goals as goal

pub loop-row-preserved : goal.loop-row-preserved
loop-row-preserved g c =
    let t = g.R.PlainJsonRecord.table in
    let at = row_is _ t c.rows-row-items.ensures _ _ c.loop-row-test.true in
    next_row t.members c.loop-row.row-index at.0 (view c.args.value.now) _ at.1.next at.1.entry at.1.row.shape _ _
    c.loop-row.invariant c.in_ok-append_row.ensures

pub returns : goal.returns
returns g c =
    let t = g.R.PlainJsonRecord.table in
    all_listed _ _ c.loop-row.dropped.items
    (ap (λ ms. dropped_rows (rows_in ms) (view c.args.value.now))
    (at_end c.rows-row-items.result.now t.members c.rows-row-items.ensures _ c.loop-row-test.false)) c.loop-row.invariant
