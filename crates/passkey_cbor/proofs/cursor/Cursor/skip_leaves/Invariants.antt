use Rattle.passkey_cbor.proofs.skipping.Advancing.{Leaves}
use Rattle.passkey_cbor.proofs.cursor.Cursor.skip_leaves.Given as goal

abbrev pub invariant-loop-left : goal.invariant-loop-left
invariant-loop-left l = Leaves l.most l.left l.place l.fn.self

abbrev pub decreases-loop-left : goal.decreases-loop-left
decreases-loop-left l = l.left
