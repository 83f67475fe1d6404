use Rattle.std.proofs.Common.{◌≡◌}
use Rattle.passkey_json.specs.Shape.{first_member, tested}
use Rattle.serde_json.specs.View.{members_view}
use Rattle.passkey_json.proofs.map.refused_member.Given as goal

abbrev pub invariant-loop-name : goal.invariant-loop-name
invariant-loop-name g l =
    let t = tested g.T.FromJson.kind g.T.FromJson.shape in
    first_member t (members_view l.members.entries) ≡ first_member t (members_view l.name-iterator)
