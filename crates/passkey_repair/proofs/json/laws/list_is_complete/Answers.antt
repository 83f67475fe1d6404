use Rattle.passkey_json.specs.Members.{record_kind}
use Rattle.passkey_json.specs.Table.{members_in}
use Rattle.passkey_repair.proofs.Repairing.{list_is_complete}
use Rattle.passkey_repair.proofs.json.laws.list_is_complete.Goals as goal

pub returns : goal.returns
returns g c = list_is_complete (record_kind (members_in g.R.PlainJsonRecord.table)) g.R.RepairsJson.edits
