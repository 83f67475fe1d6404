use Rattle.std.proofs.Common.{◌∙◌, arith}
use Rattle.passkey_cbor.proofs.items.Comparing.{items_eq-end, pairs_eq-end}
use Rattle.passkey_cbor.proofs.building.Views.{item_of-Array, item_of-Map}
use Rattle.passkey_cbor.proofs.equality.+equality.Goals as goal

pub equal-returns-in-Map-Map : goal.equal-returns-in-Map-Map
equal-returns-in-Map-Map t c =
    rw (
      c.in-Map-Map.is-0,
      c.in-Map-Map.is-1,
      item_of-Map c.in-Map-Map.a,
      item_of-Map c.in-Map-Map.b,
      ← c.deref-in-Map-Map.ensures.value,
      ← c.deref-in-Map-Map-2.ensures.value,
    ) c.pairs_equal.ensures

pub items_equal-returns : goal.items_equal-returns
items_equal-returns t c =
    c.is_empty.ensures ∙ items_eq-end c.args.a.now c.loop-x.rest.now c.loop-x.x-index (omega arith)
    ∙ c.loop-x.invariant

pub pairs_equal-returns : goal.pairs_equal-returns
pairs_equal-returns t c =
    c.is_empty.ensures ∙ pairs_eq-end c.args.a.now c.loop-key.rest.now c.loop-key.key-index (omega arith)
    ∙ c.loop-key.invariant

pub equal-returns-in-Array-Array : goal.equal-returns-in-Array-Array
equal-returns-in-Array-Array t c =
    rw (
      c.in-Array-Array.is-0,
      c.in-Array-Array.is-1,
      item_of-Array c.in-Array-Array.a,
      item_of-Array c.in-Array-Array.b,
      ← c.deref-in-Array-Array.ensures.value,
      ← c.deref-in-Array-Array-2.ensures.value,
    ) c.items_equal.ensures
