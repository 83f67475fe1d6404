use Rattle.std.proofs.Common.{◌+◌, ◌*◌, option_map}
use Rattle.passkey_cbor.proofs.items.CanonicalItems.{ItemsGo, PairsGo}
use Rattle.passkey_cbor.proofs.canonical.+canonical.Given as goal

abbrev pub decreases-after_content : goal.decreases-after_content
decreases-after_content l = 8 * l.levels + 1

abbrev pub decreases-after_item : goal.decreases-after_item
decreases-after_item l = 8 * l.levels + 2

abbrev pub decreases-after_items : goal.decreases-after_items
decreases-after_items l = 8 * l.levels + 3

abbrev pub decreases-after_pairs : goal.decreases-after_pairs
decreases-after_pairs l = 8 * l.levels + 3

abbrev pub invariant-after_items-loop-left : goal.invariant-after_items-loop-left
invariant-after_items-loop-left l = ItemsGo l.fn.levels l.fn.count l.fn.bytes l.left l.rest

abbrev pub decreases-after_items-loop-left : goal.decreases-after_items-loop-left
decreases-after_items-loop-left l = l.left

abbrev pub invariant-after_pairs-loop-left : goal.invariant-after_pairs-loop-left
invariant-after_pairs-loop-left l =
    PairsGo l.fn.levels l.fn.count l.fn.bytes l.left (option_map (λ k. k.now) l.before) l.rest

abbrev pub decreases-after_pairs-loop-left : goal.decreases-after_pairs-loop-left
decreases-after_pairs-loop-left l = l.left
