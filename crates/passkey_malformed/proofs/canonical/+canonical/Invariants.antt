use Rattle.std.proofs.Common.{◌+◌, ◌*◌, option_map}
use Rattle.passkey_malformed.proofs.Breaking.{ItemsOn, PairsOn}
use Rattle.passkey_malformed.proofs.canonical.+canonical.Given as goal

abbrev pub decreases-after_item : goal.decreases-after_item
decreases-after_item l = 8 * l.levels + 3

abbrev pub decreases-after_content : goal.decreases-after_content
decreases-after_content l = 8 * l.levels + 2

abbrev pub decreases-after_array : goal.decreases-after_array
decreases-after_array l = 8 * l.levels + 1

abbrev pub decreases-after_map : goal.decreases-after_map
decreases-after_map l = 8 * l.levels + 1

abbrev pub decreases-after_items : goal.decreases-after_items
decreases-after_items l = 8 * l.levels + 4

abbrev pub decreases-after_pairs : goal.decreases-after_pairs
decreases-after_pairs l = 8 * l.levels + 4

abbrev pub invariant-after_items-loop-left : goal.invariant-after_items-loop-left
invariant-after_items-loop-left l = ItemsOn l.fn.levels l.fn.count l.fn.bytes l.left l.here

abbrev pub decreases-after_items-loop-left : goal.decreases-after_items-loop-left
decreases-after_items-loop-left l = l.left

abbrev pub invariant-after_pairs-loop-left : goal.invariant-after_pairs-loop-left
invariant-after_pairs-loop-left l =
    PairsOn l.fn.levels l.fn.count l.fn.bytes l.left (option_map (λ k. k.now) l.before) l.here

abbrev pub decreases-after_pairs-loop-left : goal.decreases-after_pairs-loop-left
decreases-after_pairs-loop-left l = l.left
