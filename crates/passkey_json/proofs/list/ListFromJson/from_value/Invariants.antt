use Rattle.std.proofs.Common.{◌≡◌, ◌++◌, option_map, drop}
use Rattle.passkey_json.specs.Kind.{each}
use Rattle.passkey_json.proofs.list.ListFromJson.from_value.Given as goal
use Rattle.serde_json.specs.View.{items_view}

abbrev pub invariant-loop-element : goal.invariant-loop-element
invariant-loop-element g l =
    option_map (λ xs. l.read.items ++ xs)
    (each g.T.FromJson.kind (items_view (drop l.element-index l.element-items)))
    ≡ each g.T.FromJson.kind (items_view l.element-items)
