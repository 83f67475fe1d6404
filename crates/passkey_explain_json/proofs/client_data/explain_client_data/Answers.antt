use Rattle.passkey_explain_json.proofs.ClientData.{fixed_explained}
use Rattle.serde_json.specs.View.{view}
use Rattle.passkey_explain_json.proofs.client_data.explain_client_data.Goals as goal

pub returns-in-Some : goal.returns-in-Some
returns-in-Some c =
    let e = c.in-Some.explanation in
    fixed_explained (view c.args.value.now) e.fault e.blame (rw c.in-Some.is at c.in_ok-explanation.ensures)
