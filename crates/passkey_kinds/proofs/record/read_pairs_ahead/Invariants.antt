use Rattle.passkey_kinds.proofs.Steps.{CountsHeads, PairWithin, max_depth, Onward, record_cost, kept_in, HasReadTo, Members, ℕ, length, ◌-◌, PairsAreEncodedAt, EachTo}
use Rattle.passkey_kinds.specs.RecordReading.{least_in}
use Rattle.passkey_kinds.proofs.record.read_pairs_ahead.Given as goal

abbrev pub invariant-loop-alloc : goal.invariant-loop-alloc
invariant-loop-alloc g l = record {
  onward : Onward l.fn.cursor l.cursor;
  counts : CountsHeads l.fn.cursor l.cursor;
  each : (ms : Members) (to : ℕ) → PairsAreEncodedAt l.fn.left ms l.fn.cursor.bytes l.fn.cursor.place to
      → EachTo (PairWithin max_depth) (λ rest. HasReadTo g.R.Record.fields ms rest (g.R.Record.parts l.read) l.seen)
      (kept_in g.R.Record.fields) (least_in g.R.Record.fields) (record_cost g.R.Record.fields) l.left ms to l.fn.cursor l.cursor;
}

abbrev pub decreases-loop-alloc : goal.decreases-loop-alloc
decreases-loop-alloc g l = length l.cursor.bytes - l.cursor.place
