use Rattle.passkey_kinds.proofs.Steps.{CountsHeads, ◌≡◌, ◌-◌, ℕ, suc, List, length, Lies, Left, collected, kept_sum, Onward, EachTo}
use Rattle.passkey_kinds.specs.Kind.{least_sum}
use Rattle.passkey_kinds.proofs.collect.read_all.Given as goal

abbrev pub invariant-loop-alloc : goal.invariant-loop-alloc
invariant-loop-alloc g l = record {
  onward : Onward l.fn.cursor l.cursor;
  counts : CountsHeads l.fn.cursor l.cursor;
  each : (xs : List g.C.Collect.Element) (to : ℕ)
      → Lies (Left g.C.Collect.way.Encoded l.fn.left xs) l.fn.cursor.bytes l.fn.cursor.place to
      → EachTo g.C.Collect.way.Encoded (λ rest. collected g.C.Collect.way.next rest (g.C.Collect.value l.into)
      ≡ collected g.C.Collect.way.next xs (g.C.Collect.value l.fn.empty)) (kept_sum g.C.Collect.way.kept)
      (least_sum g.C.Collect.way.least) (suc g.C.Collect.way.cost) l.left xs to l.fn.cursor l.cursor;
}

abbrev pub decreases-loop-alloc : goal.decreases-loop-alloc
decreases-loop-alloc g l = length l.cursor.bytes - l.cursor.place
