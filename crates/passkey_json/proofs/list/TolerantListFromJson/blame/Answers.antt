use Rattle.passkey_json.proofs.Blames.{accepted_blames}
use Rattle.serde_json.specs.View.{view}
use Rattle.passkey_json.proofs.list.TolerantListFromJson.blame.Goals as goal

pub returns : goal.returns
returns g c =
    accepted_blames g.T.FromJson.kind g.T.FromJson.shape (view c.args._value.now) c.wanted.result c.wanted.ensures.path
    c.wanted.ensures.reason
