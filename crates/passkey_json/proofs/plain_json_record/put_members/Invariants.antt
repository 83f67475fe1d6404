use Rattle.std.proofs.Common.{drop}
use Rattle.passkey_json.proofs.Tables.{IsUnwritten}
use Rattle.passkey_json.proofs.plain_json_record.put_members.Given as goal
use Rattle.passkey_json.specs.Written.{so_far}

abbrev pub invariant-loop-row : goal.invariant-loop-row
invariant-loop-row g l =
    let ms = g.R.PlainJsonRecord.table.members in
    IsUnwritten ms (drop l.row-index ms) l.fn.form l.value (so_far l.fn.object) (so_far l.object)
