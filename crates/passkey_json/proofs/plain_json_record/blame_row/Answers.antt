use Rattle.std.proofs.Common.{refl}
use Rattle.passkey_json.proofs.Blames.{no_row, row_absent, row_blamed}
use Rattle.passkey_json.specs.declared.blame.JsonStep.TheVariants.{Member}
use Rattle.serde_json.specs.View.{view}
use Rattle.passkey_json.proofs.plain_json_record.blame_row.Goals as goal

pub returns-in_default : goal.returns-in_default
returns-in_default g c =
    no_row g.R.PlainJsonRecord.table.members (view c.args.value.now) c.args.name.now _ c.rows.ensures
    c.in_default.ensures c.wanted-object.result c.wanted-object.ensures.path c.wanted-object.ensures.reason

pub returns-in-None : goal.returns-in-None
returns-in-None g c =
    row_absent g.R.PlainJsonRecord.table.members (view c.args.value.now) c.args.name.now _ c.rows.ensures
    c.in-Some.row c.in-Some.ensures c.in-None.ensures c.wanted-object.result c.wanted-object.ensures.path
    c.wanted-object.ensures.reason

pub returns-in_ok-blame_member-in-Some-present : goal.returns-in_ok-blame_member-in-Some-present
returns-in_ok-blame_member-in-Some-present g c =
    row_blamed g.R.PlainJsonRecord.table.members (view c.args.value.now) c.args.name.now _ c.rows.ensures
    c.in-Some.row c.in-Some.ensures c.in-Some-present.name.now (view c.in-Some-present.member.now)
    c.in-Some-present.ensures c.in_ok-blame_member-in-Some-present.field-0
    (rw (c.number.ensures) at c.in_ok-blame_member-in-Some-present.ensures) (Member c.in-Some-present.name) refl _
    c.under.ensures
