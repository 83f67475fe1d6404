use Rattle.passkey_kinds.proofs.Common.{All, ◌≡◌, ◌++◌, map, drop, pair_of, entry_tree, deref_pair}
use Rattle.passkey_kinds.proofs.map.write_entries.Given as goal

abbrev pub invariant-loop-key : goal.invariant-loop-key
invariant-loop-key g l = record {
  items : map pair_of l.pairs.items ++ map (entry_tree g.T.ToCbor.tree) (drop l.key-index (map deref_pair l.entries))
      ≡ map (entry_tree g.T.ToCbor.tree) (map deref_pair l.entries);
  fits : All (λ e. g.T.ToCbor.fits e.1) (drop l.key-index (map deref_pair l.entries))
      → All (λ e. g.T.ToCbor.fits e.1) (map deref_pair l.entries);
}
