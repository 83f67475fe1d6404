use Rattle.passkey_json.specs.Table.{members_in}
use Rattle.passkey_repair.proofs.Repairing.{accepted_is_decoded}
use Rattle.passkey_repair.proofs.json.laws.accepted_is_decoded.Goals as goal

pub returns : goal.returns
returns g c = accepted_is_decoded (members_in g.R.PlainJsonRecord.table) g.R.RepairsJson.edits
