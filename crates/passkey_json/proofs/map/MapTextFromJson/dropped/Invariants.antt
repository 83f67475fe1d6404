use Rattle.passkey_json.proofs.Dropping.{Lists}
use Rattle.passkey_json.specs.Dropped.{dropped, dropped_map, dropped_members}
use Rattle.serde_json.specs.View.{members_view, view}
use Rattle.passkey_json.proofs.map.MapTextFromJson.dropped.Given as goal

abbrev pub invariant-loop-name : goal.invariant-loop-name
invariant-loop-name g l =
    let of = dropped g.T.FromJson.shape in
    Lists (dropped_map of (view l.value)) (dropped_members of (members_view l.name-iterator)) l.dropped.items
