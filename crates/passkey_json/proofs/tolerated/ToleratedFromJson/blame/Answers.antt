use Rattle.passkey_json.proofs.Blames.{tolerant_blames}
use Rattle.serde_json.specs.View.{view}
use Rattle.passkey_json.proofs.tolerated.ToleratedFromJson.blame.Goals as goal

pub returns : goal.returns
returns g c = tolerant_blames g.T.FromJson.kind g.T.FromJson.shape (view c.args.value.now) _ c.blame.ensures
