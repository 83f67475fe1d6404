use Rattle.std.proofs.Common.{◌≡◌, drop}
use Rattle.passkey_repair.specs.json.Changes.{has_unknown_transport}
use Rattle.passkey_repair.proofs.json.transports.has_unknown_transport.Given as goal
use Rattle.serde_json.specs.View.{items_view}

abbrev pub invariant-loop-element : goal.invariant-loop-element
invariant-loop-element l =
    has_unknown_transport (items_view l.elements)
    ≡ has_unknown_transport (items_view (drop l.element-index l.elements))
