use Rattle.passkey_kinds.proofs.Common.{map, drop, pair_of, HasReadTo}
use Rattle.passkey_kinds.proofs.record.read_pairs.Given as goal

abbrev pub invariant-loop-key : goal.invariant-loop-key
invariant-loop-key g l = HasReadTo g.R.Record.fields (map pair_of l.pairs) (drop l.key-index (map pair_of l.pairs))
    (g.R.Record.parts l.read) l.seen
