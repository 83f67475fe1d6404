use Rattle.passkey_kinds.proofs.Steps.{Onward, Members, ℕ, length, ◌-◌, PairsAreEncodedAt, table_of}
use Rattle.passkey_kinds.proofs.Finding.{StillAhead}
use Rattle.passkey_kinds.proofs.lending.find_value.Given as goal

abbrev pub invariant-loop-left : goal.invariant-loop-left
invariant-loop-left g l = record {
  onward : Onward l.fn.cursor l.cursor;
  each : (ms : Members) (to : ℕ) → PairsAreEncodedAt l.fn.left ms l.fn.cursor.bytes l.fn.cursor.place to
      → StillAhead (table_of g.R.Record.fields) l.number ms to l.left l.fn.cursor l.cursor;
}

abbrev pub decreases-loop-left : goal.decreases-loop-left
decreases-loop-left g l = length l.cursor.bytes - l.cursor.place
