use Rattle.std.proofs.Common.{List, ap}
use Rattle.passkey_cbor.specs.Item.{Item, array, map, tagged, items_of, pairs_of}
use Rattle.passkey_cbor.proofs.building.Views.{item_of-Tag, item_of-Array, item_of-Map}
use Rattle.passkey_cbor.proofs.building.Cloning.{array_grows, map_grows}
use Rattle.passkey_memory.proofs.Failing.{on_err}
use Rattle.passkey_cbor.proofs.clone.+clone.Goals as goal

pub copy-returns-in_err-copy_pairs-in-Map-clause-grows :
    goal.copy-returns-in_err-copy_pairs-in-Map-clause-grows
copy-returns-in_err-copy_pairs-in-Map-clause-grows t c =
    rw (c.in-Map.is, item_of-Map c.in-Map.pairs, ← c.deref-in-Map.ensures.value)
    (on_err c.from_residual-in_err-copy_pairs-in-Map.result c.in_err-copy_pairs-in-Map.ensures.grows)

pub copy_items-returns-in_err-copies-clause-grows :
    goal.copy_items-returns-in_err-copies-clause-grows
copy_items-returns-in_err-copies-clause-grows t c =
    on_err c.from_residual.result (array_grows c.args.items.now c.in_err-copies.ensures.succeeds)

pub copy_pairs-returns-in_err-copies-clause-grows :
    goal.copy_pairs-returns-in_err-copies-clause-grows
copy_pairs-returns-in_err-copies-clause-grows t c =
    on_err c.from_residual.result (map_grows c.args.pairs.now c.in_err-copies.ensures.succeeds)

pub copy-returns-in_ok-copy_pairs-in-Map-clause-same :
    goal.copy-returns-in_ok-copy_pairs-in-Map-clause-same
copy-returns-in_ok-copy_pairs-in-Map-clause-same t c =
    rw (
      c.in-Map.is,
      item_of-Map c.in_ok-copy_pairs-in-Map.field-0,
      item_of-Map c.in-Map.pairs,
      ← c.deref-in-Map.ensures.value,
    )
    (ap (λ (ps : List (Item × Item)). map (pairs_of ps)) c.in_ok-copy_pairs-in-Map.ensures.same)

pub copy-returns-in_err-copy_items-in-Array-clause-grows :
    goal.copy-returns-in_err-copy_items-in-Array-clause-grows
copy-returns-in_err-copy_items-in-Array-clause-grows t c =
    rw (c.in-Array.is, item_of-Array c.in-Array.items, ← c.deref-in-Array.ensures.value)
    (on_err c.from_residual-in_err-copy_items-in-Array.result c.in_err-copy_items-in-Array.ensures.grows)

pub copy-returns-in_ok-copy_items-in-Array-clause-same :
    goal.copy-returns-in_ok-copy_items-in-Array-clause-same
copy-returns-in_ok-copy_items-in-Array-clause-same t c =
    rw (
      c.in-Array.is,
      item_of-Array c.in_ok-copy_items-in-Array.field-0,
      item_of-Array c.in-Array.items,
      ← c.deref-in-Array.ensures.value,
    )
    (ap (λ (is : List Item). array (items_of is)) c.in_ok-copy_items-in-Array.ensures.same)

pub copy-returns-in_err-copy-in-Tag-clause-grows : goal.copy-returns-in_err-copy-in-Tag-clause-grows
copy-returns-in_err-copy-in-Tag-clause-grows t c =
    rw (c.in-Tag.is, item_of-Tag c.in-Tag.tag c.in-Tag.inner) (on_err c.from_residual-in_err-copy-in-Tag.result tt)

pub copy-returns-in_err-new-in-Tag-clause-grows : goal.copy-returns-in_err-new-in-Tag-clause-grows
copy-returns-in_err-new-in-Tag-clause-grows t c =
    rw (c.in-Tag.is, item_of-Tag c.in-Tag.tag c.in-Tag.inner) (on_err c.from_residual-in_err-new-in-Tag.result tt)

pub copy-returns-in_ok-new-in-Tag-clause-same : goal.copy-returns-in_ok-new-in-Tag-clause-same
copy-returns-in_ok-new-in-Tag-clause-same t c =
    rw (
      c.in-Tag.is,
      item_of-Tag c.in-Tag.tag c.in_ok-new-in-Tag.field-0,
      item_of-Tag c.in-Tag.tag c.in-Tag.inner,
      c.in_ok-new-in-Tag.ensures.ok,
      ← c.deref-in-Tag.ensures,
    )
    (ap (tagged c.in-Tag.tag) c.in_ok-copy-in-Tag.ensures.same)
