use Rattle.serde_json.specs.View.{view}
use Rattle.passkey_explain_json.proofs.Explained.{explained}
use Rattle.passkey_explain_json.proofs.explanation.explain_json.Goals as goal

pub returns : goal.returns
returns g c =
    explained g.R.PlainJsonRecord.table (view c.args.value.now) c.in-Some.fault c.in_ok-blame.blame
    (rw c.in-Some.is at c.in_ok-fault.ensures) c.in_ok-blame.ensures
