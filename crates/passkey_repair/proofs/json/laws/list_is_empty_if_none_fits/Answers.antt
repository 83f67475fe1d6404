use Rattle.passkey_json.specs.Members.{record_kind}
use Rattle.passkey_json.specs.Table.{members_in}
use Rattle.passkey_repair.proofs.Repairing.{empty_if_none_fits}
use Rattle.passkey_repair.proofs.json.laws.list_is_empty_if_none_fits.Goals as goal

pub returns : goal.returns
returns g c = empty_if_none_fits (record_kind (members_in g.R.PlainJsonRecord.table)) g.R.RepairsJson.edits
