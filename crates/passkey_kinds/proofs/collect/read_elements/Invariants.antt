use Rattle.passkey_kinds.proofs.Steps.{◌≡◌, map, drop, item_of, collected}
use Rattle.passkey_kinds.proofs.collect.read_elements.Given as goal

abbrev pub invariant-loop-element : goal.invariant-loop-element
invariant-loop-element g l =
    collected g.G.Gather.gathering.next (drop l.element-index (map item_of l.elements)) (g.G.Gather.value l.into)
    ≡ collected g.G.Gather.gathering.next (map item_of l.elements) (g.G.Gather.value l.fn.empty)
