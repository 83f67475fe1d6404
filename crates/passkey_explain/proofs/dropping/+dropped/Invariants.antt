use Rattle.std.proofs.Common.{◌≡◌, ◌+◌, ◌*◌, ◌++◌, ℕ, List, map, drop, Some}
use Rattle.std.specs.List.{All}
use Rattle.passkey_cbor.proofs.value.Value.TheLaws.{the_size}
use Rattle.passkey_kinds.proofs.Common.{Item, item_of, pair_of}
use Rattle.passkey_kinds.specs.Look.{tested}
use Rattle.passkey_kinds.specs.Shape.{Tested, reached}
use Rattle.passkey_explain.specs.Along.{PassedItems, parts_of, turns}
use Rattle.passkey_explain.specs.Blame.{step_of}
use Rattle.passkey_explain.specs.Dropped.{Leaving, dropped, dropped_elements, dropped_pairs}
use Rattle.passkey_explain.specs.Drops.{GoesOn, IsOpened, Leaves, LiesIn, left_out, steps_by}
use Rattle.passkey_explain.proofs.dropping.+dropped.Given as goal

-- a call goes to a smaller item, or on to the next function for the same one
abbrev pub decreases-put_pair : goal.decreases-put_pair
decreases-put_pair g l = 4 * the_size l.pair.now.1 + 2

abbrev pub decreases-put_dropped : goal.decreases-put_dropped
decreases-put_dropped g l = 4 * goal.size-put_dropped g l + 1

abbrev pub decreases-put_list : goal.decreases-put_list
decreases-put_list g l = 4 * goal.size-put_list g l

abbrev pub decreases-put_elements : goal.decreases-put_elements
decreases-put_elements g l = 4 * goal.size-put_elements g l + 3

abbrev pub decreases-put_map : goal.decreases-put_map
decreases-put_map g l = 4 * goal.size-put_map g l

abbrev pub decreases-put_pairs : goal.decreases-put_pairs
decreases-put_pairs g l = 4 * goal.size-put_pairs g l + 3

abbrev pub invariant-put_elements-loop-index : goal.invariant-put_elements-loop-index
invariant-put_elements-loop-index g l = record {
  moves : GoesOn l.fn.cursor l.cursor;
  lists : (t : Tested) → reached l.way (tested g.M.FromCbor.typed) ≡ Some t → (
      let left = dropped_elements (dropped t.shape) (map step_of l.path) in
      let xs = map item_of l.elements in
      map left_out l.dropped.items ++ left l.index (drop l.index xs) ≡ map left_out l.fn.dropped.items ++ left 0 xs);
  extents : (whole i : Item) (bytes : List ℕ) → l.fn.cursor.bytes ≡ bytes → parts_of i ≡ map item_of l.elements
      → (h : IsOpened whole (map step_of l.path) i bytes l.fn.cursor.place)
      → All (LiesIn whole bytes) l.fn.dropped.items
      → PassedItems (parts_of i) l.index bytes l.fn.cursor.place l.cursor.place h.end
      × All (LiesIn whole bytes) l.dropped.items;
}

abbrev pub invariant-put_pairs-loop-index : goal.invariant-put_pairs-loop-index
invariant-put_pairs-loop-index g l = record {
  moves : GoesOn l.fn.cursor l.cursor;
  lists : (of : ℕ → Leaving) → Leaves (tested g.M.FromCbor.typed) l.ty.way.now of (steps_by l.ty.keys) → (
      let left = dropped_pairs (steps_by l.ty.keys) of (map step_of l.path) in
      let ms = map pair_of l.pairs in
      map left_out l.dropped.items ++ left l.index (drop l.index ms) ≡ map left_out l.fn.dropped.items ++ left 0 ms);
  extents : (whole i : Item) (bytes : List ℕ) → l.fn.cursor.bytes ≡ bytes → parts_of i ≡ turns (map pair_of l.pairs)
      → (h : IsOpened whole (map step_of l.path) i bytes l.fn.cursor.place)
      → All (LiesIn whole bytes) l.fn.dropped.items
      → PassedItems (parts_of i) (l.index + l.index) bytes l.fn.cursor.place l.cursor.place h.end
      × All (LiesIn whole bytes) l.dropped.items;
}
