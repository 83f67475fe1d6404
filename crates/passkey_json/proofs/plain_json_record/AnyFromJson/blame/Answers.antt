use Rattle.std.proofs.Common.{refl}
use Rattle.passkey_json.proofs.Blames.{record_blames}
use Rattle.passkey_json.specs.Fault.{float, refused}
use Rattle.serde_json.specs.View.{view}
use Rattle.passkey_json.proofs.plain_json_record.AnyFromJson.blame.Goals as goal

pub returns-in-Some-Refused : goal.returns-in-Some-Refused
returns-in-Some-Refused g c =
    let name = c.in-Some-Refused.name.now in
    record_blames g.R.PlainJsonRecord.table (view c.args.value.now) (refused name) name
    (rw (c.in-Some-Refused.is, c.in-Some-Refused.field-0-is) at c.in_ok-name.ensures) refl refl _ c.blame_row.ensures

pub returns-in-Some-Float : goal.returns-in-Some-Float
returns-in-Some-Float g c =
    let name = c.in-Some-Float.name.now in
    record_blames g.R.PlainJsonRecord.table (view c.args.value.now) (float name) name
    (rw (c.in-Some-Float.is, c.in-Some-Float.field-0-is) at c.in_ok-name.ensures) refl refl _
    c.blame_row-in-Some-Float.ensures
