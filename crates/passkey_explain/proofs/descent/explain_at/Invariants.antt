use Rattle.passkey_kinds.proofs.Common.{◌≡◌, Some, map, item_of}
use Rattle.passkey_explain.proofs.Blames.{Descends, left_of}
use Rattle.passkey_explain.specs.Blame.{step_of}
use Rattle.passkey_kinds.specs.Look.{tested}
use Rattle.passkey_kinds.specs.Shape.{Tested, reached}
use Rattle.passkey_explain.proofs.descent.explain_at.Given as goal

abbrev pub invariant-loop-way : goal.invariant-loop-way
invariant-loop-way g l =
    (t : Tested) → reached l.fn.from (tested g.M.FromCbor.typed) ≡ Some t
    → Descends (tested g.M.FromCbor.typed) t (item_of l.fn.value) (map step_of l.path.items) l.way.items (item_of l.here)

abbrev pub decreases-loop-way : goal.decreases-loop-way
decreases-loop-way g l = left_of (reached l.way.items (tested g.M.FromCbor.typed)) (item_of l.here)
