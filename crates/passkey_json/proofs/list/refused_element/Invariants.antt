use Rattle.std.proofs.Common.{◌≡◌, drop}
use Rattle.passkey_json.specs.Shape.{first_element, tested}
use Rattle.serde_json.specs.View.{items_view}
use Rattle.passkey_json.proofs.list.refused_element.Given as goal

abbrev pub invariant-loop-index : goal.invariant-loop-index
invariant-loop-index g l =
    let t = tested g.T.FromJson.kind g.T.FromJson.shape in
    first_element t 0 (items_view l.elements) ≡ first_element t l.index (items_view (drop l.index l.elements))
