use Rattle.std.proofs.Common.{◌+◌, ◌*◌, length}
use Rattle.passkey_malformed.proofs.Going.{ItemsGo}
use Rattle.passkey_malformed.proofs.items.+items.Given as goal

abbrev pub decreases-after_item : goal.decreases-after_item
decreases-after_item l = 2 * l.levels

abbrev pub decreases-after_list : goal.decreases-after_list
decreases-after_list l = 2 * l.levels + 1

abbrev pub invariant-after_list-loop-here : goal.invariant-after_list-loop-here
invariant-after_list-loop-here l = ItemsGo l.is_map l.len l.levels l.fn.bytes l.passed l.here

abbrev pub decreases-after_list-loop-here : goal.decreases-after_list-loop-here
decreases-after_list-loop-here l = length l.here
