-- What the iterators over a list yield.
use Rattle.std.specs.Prelude.{◌≡◌, ◌<◌, ◌^◌, List, length}
use Rattle.std.specs.Iterator.Runs.{EveryRun, ItemsAre, ItemsMapTo}
use Rattle.std.specs.Slice.Iter.{iter_rest, iter_steps}
use Rattle.std.specs.Vec.Iter.{into_iter_items, into_iter_len, into_iter_steps}
use Rattle.std.specs.declared.slice.Iter.{Iter}
use Rattle.std.specs.declared.vec.IntoIter.{IntoIter}

-- the iterator yields the items in their order, and then ends
abbrev pub GivesItems : {T A : Type 0} → List T → IntoIter T A → Type 0
GivesItems {T} {A} items it = (into_iter_items it ≡ items) × (into_iter_len it ≡ length items)
    × (into_iter_len it < 2 ^ 64)
    × EveryRun (into_iter_steps {X = T} {Z = A}) (λ run. ItemsAre run (into_iter_items run.from))

-- the same for references to the items
abbrev pub LendsItems : {T : Type 0} → List T → Iter T → Type 0
LendsItems {T} items it = (iter_rest it ≡ items) × (length (iter_rest it) < 2 ^ 64)
    × EveryRun (iter_steps {A = T}) (λ run. ItemsMapTo run (λ item. item.now) (iter_rest run.from))
