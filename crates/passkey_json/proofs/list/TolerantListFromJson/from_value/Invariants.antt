use Rattle.std.proofs.Common.{◌≡◌, ◌++◌, drop}
use Rattle.passkey_json.specs.Kind.{accepted_of}
use Rattle.passkey_json.proofs.list.TolerantListFromJson.from_value.Given as goal
use Rattle.serde_json.specs.View.{items_view}

abbrev pub invariant-loop-element : goal.invariant-loop-element
invariant-loop-element g l =
    l.read.items ++ accepted_of g.T.FromJson.kind (items_view (drop l.element-index l.element-items))
    ≡ accepted_of g.T.FromJson.kind (items_view l.element-items)
