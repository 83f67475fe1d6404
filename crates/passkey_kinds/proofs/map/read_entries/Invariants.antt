use Rattle.std.specs.FinMap as fin
use Rattle.passkey_kinds.proofs.Common.{◌≡◌, map, drop, pair_of, map_values, with_members}
use Rattle.passkey_kinds.proofs.map.read_entries.Given as goal

abbrev pub invariant-loop-key : goal.invariant-loop-key
invariant-loop-key g l =
    with_members g.T.FromCbor.typed.of fin.empty (map pair_of l.pairs)
    ≡ with_members g.T.FromCbor.typed.of (map_values g.T.FromCbor.view l.read) (map pair_of (drop l.key-index l.pairs))
