use Rattle.passkey_kinds.proofs.Common.{All, map, drop, items_of, WritesItems}
use Rattle.passkey_kinds.proofs.written.append_each.Given as goal

abbrev pub invariant-loop-value : goal.invariant-loop-value
invariant-loop-value g l = record {
  bytes : WritesItems (items_of (map g.T.ToCbor.tree l.list)) (items_of (map g.T.ToCbor.tree (drop l.value-index
      l.list)))
      l.fn.encoder.bytes.items l.encoder.bytes.items;
  fits : All g.T.ToCbor.fits (drop l.value-index l.list) → All g.T.ToCbor.fits l.list;
}
