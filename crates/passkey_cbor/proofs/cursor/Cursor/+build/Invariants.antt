use Rattle.std.proofs.Common.{◌≡◌, ◌+◌, ◌-◌, ◌*◌, List, map, length}
use Rattle.passkey_cbor.specs.Item.{Item}
use Rattle.passkey_cbor.specs.Reading.{item_within, pair_by}
use Rattle.passkey_cbor.specs.View.{item_of, pair_of}
use Rattle.passkey_cbor.specs.Building.{an_item, a_pair}
use Rattle.passkey_cbor.proofs.building.Gathering.{Gathers}
use Rattle.passkey_cbor.proofs.cursor.Cursor.+build.Given as goal

abbrev pub decreases-build_inside : goal.decreases-build_inside
decreases-build_inside l = 8 * l.levels + 3

abbrev pub decreases-build_array : goal.decreases-build_array
decreases-build_array l = 8 * l.levels + 2

abbrev pub decreases-build_map : goal.decreases-build_map
decreases-build_map l = 8 * l.levels + 2

abbrev pub decreases-build_tagged : goal.decreases-build_tagged
decreases-build_tagged l = 8 * l.levels + 2

abbrev pub decreases-build_after : goal.decreases-build_after
decreases-build_after l = 8 * l.levels + 4

abbrev pub decreases-build_item : goal.decreases-build_item
decreases-build_item l = 8 * l.levels + 5

abbrev pub decreases-build_pair : goal.decreases-build_pair
decreases-build_pair l = 8 * l.levels + 6

abbrev pub decreases-build_items : goal.decreases-build_items
decreases-build_items l = 8 * l.levels + 7

abbrev pub decreases-build_pairs : goal.decreases-build_pairs
decreases-build_pairs l = 8 * l.levels + 7

abbrev pub invariant-build_items-loop-head : goal.invariant-build_items-loop-head
invariant-build_items-loop-head l =
    Gathers (item_within l.fn.levels) an_item.size l.fn.len l.left l.fn.self l.self
    (λ (xs : List Item). map item_of l.items.items ≡ xs)

abbrev pub decreases-build_items-loop-head : goal.decreases-build_items-loop-head
decreases-build_items-loop-head l = length l.self.bytes - l.self.place

abbrev pub invariant-build_pairs-loop-head : goal.invariant-build_pairs-loop-head
invariant-build_pairs-loop-head l =
    Gathers (pair_by (item_within l.fn.levels)) a_pair.size l.fn.len l.left l.fn.self l.self
    (λ (ms : List (Item × Item)). map pair_of l.pairs.items ≡ ms)

abbrev pub decreases-build_pairs-loop-head : goal.decreases-build_pairs-loop-head
decreases-build_pairs-loop-head l = length l.self.bytes - l.self.place
