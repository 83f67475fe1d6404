use Rattle.std.proofs.Common.{◌≡◌, ◌++◌, drop, map}
use Rattle.passkey_repair.specs.json.Changes.{known_transports}
use Rattle.passkey_repair.proofs.json.transports.known_transports.Given as goal
use Rattle.serde_json.specs.View.{items_view, view}

abbrev pub invariant-loop-element : goal.invariant-loop-element
invariant-loop-element l =
    map view l.known.items ++ known_transports (items_view (drop l.element-index l.elements))
    ≡ known_transports (items_view l.elements)
