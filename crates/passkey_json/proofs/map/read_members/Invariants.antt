use Rattle.std.specs.FinMap as fin
use Rattle.std.proofs.Common.{◌≡◌}
use Rattle.passkey_json.specs.MapKind.{with_members}
use Rattle.passkey_json.proofs.map.read_members.Given as goal
use Rattle.serde_json.specs.View.{members_view}

abbrev pub invariant-loop-name : goal.invariant-loop-name
invariant-loop-name g l =
    with_members g.T.FromJson.kind l.read (members_view l.name-iterator)
    ≡ with_members g.T.FromJson.kind fin.empty (members_view l.members.entries)
