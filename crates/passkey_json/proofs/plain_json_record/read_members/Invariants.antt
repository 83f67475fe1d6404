use Rattle.std.proofs.Common.{drop}
use Rattle.passkey_json.proofs.Tables.{IsLeft}
use Rattle.passkey_json.proofs.plain_json_record.read_members.Given as goal
use Rattle.passkey_json.specs.Held.{names_of}

abbrev pub invariant-loop-row : goal.invariant-loop-row
invariant-loop-row g l =
    let t = g.R.PlainJsonRecord.table in
    IsLeft t.members (drop l.row-index t.members) (names_of l.object) t.blank l.read
