use Rattle.passkey_kinds.proofs.Common.{◌≡◌, Item, Some, map, drop, pair_of}
use Rattle.passkey_explain.specs.Blame.{Blame}
use Rattle.passkey_explain.specs.Blaming.{blame_entries}
use Rattle.passkey_kinds.specs.Look.{tested}
use Rattle.passkey_kinds.specs.Shape.{Tested, reached}
use Rattle.passkey_explain.proofs.descent.next_entry.Given as goal

abbrev pub invariant-loop-index : goal.invariant-loop-index
invariant-loop-index g l =
    (t : Tested) → reached l.way (tested g.M.FromCbor.typed) ≡ Some t → (of : Item → Blame)
    → blame_entries t.accepts of 0 (map pair_of l.pairs)
    ≡ blame_entries t.accepts of l.index (drop l.index (map pair_of l.pairs))
