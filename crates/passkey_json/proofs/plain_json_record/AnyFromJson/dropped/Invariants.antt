use Rattle.std.proofs.Common.{drop}
use Rattle.passkey_json.proofs.Dropping.{Lists}
use Rattle.passkey_json.specs.Dropped.{dropped_rows}
use Rattle.passkey_json.specs.Table.{rows_in}
use Rattle.serde_json.specs.View.{view}
use Rattle.passkey_json.proofs.plain_json_record.AnyFromJson.dropped.Given as goal

abbrev pub invariant-loop-row : goal.invariant-loop-row
invariant-loop-row g l =
    let ms = g.R.PlainJsonRecord.table.members in
    Lists (dropped_rows (rows_in ms) (view l.value)) (dropped_rows (rows_in (drop l.row-index ms)) (view l.value))
    l.dropped.items
