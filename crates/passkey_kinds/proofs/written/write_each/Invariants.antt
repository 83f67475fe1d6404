use Rattle.passkey_kinds.proofs.Common.{All, ◌≡◌, ◌++◌, map, drop, item_of}
use Rattle.passkey_kinds.proofs.written.write_each.Given as goal

abbrev pub invariant-loop-value : goal.invariant-loop-value
invariant-loop-value g l = record {
  items : map item_of l.values.items ++ map g.T.ToCbor.tree (drop l.value-index l.list)
      ≡ map g.T.ToCbor.tree l.list;
  fits : All g.T.ToCbor.fits (drop l.value-index l.list) → All g.T.ToCbor.fits l.list;
}
