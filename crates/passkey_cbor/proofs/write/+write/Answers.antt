use Rattle.std.proofs.Common.{arith}
use Rattle.passkey_cbor.specs.View.{item_of}
use Rattle.passkey_cbor.proofs.building.Views.{item_of-Tag, item_of-Array, item_of-Map}
use Rattle.passkey_cbor.proofs.items.Writing.{writes_items-begin, writes_items-more_at, writes_pairs-begin}
use Rattle.passkey_cbor.proofs.write.+write.Goals as goal

pub push_array-loop-item-init : goal.push_array-loop-item-init
push_array-loop-item-init t c = writes_items-begin item_of c.args.items.now c.args.out.now.items c.push_head.new.out.items
    (omega arith) c.in_ok-push_head.ensures

pub push_array-loop-item-preserved : goal.push_array-loop-item-preserved
push_array-loop-item-preserved t c =
    writes_items-more_at item_of _ _ c.item-item.result _ _ _ _ c.item-item.is c.loop-item-test.true
    c.in_ok-push_value.ensures.written c.in_ok-push_value.ensures.writable c.loop-item.invariant

pub push_map-loop-key-init : goal.push_map-loop-key-init
push_map-loop-key-init t c = writes_pairs-begin c.args.pairs.now c.args.out.now.items c.push_head.new.out.items
    (omega arith) c.in_ok-push_head.ensures

pub push_value-returns-in-Map-clause-writable : goal.push_value-returns-in-Map-clause-writable
push_value-returns-in-Map-clause-writable t c =
    rw (c.in-Map.is, item_of-Map c.in-Map.pairs, ← c.deref-in-Map.ensures.value) c.push_map.ensures.writable

pub push_value-returns-in-Map-clause-written : goal.push_value-returns-in-Map-clause-written
push_value-returns-in-Map-clause-written t c =
    rw (c.in-Map.is, item_of-Map c.in-Map.pairs, ← c.deref-in-Map.ensures.value) c.push_map.ensures.written

pub push_value-returns-in-Array-clause-written : goal.push_value-returns-in-Array-clause-written
push_value-returns-in-Array-clause-written t c =
    rw (c.in-Array.is, item_of-Array c.in-Array.items, ← c.deref-in-Array.ensures.value) c.push_array.ensures.written

pub push_value-returns-in-Array-clause-writable : goal.push_value-returns-in-Array-clause-writable
push_value-returns-in-Array-clause-writable t c =
    rw (c.in-Array.is, item_of-Array c.in-Array.items, ← c.deref-in-Array.ensures.value)
    c.push_array.ensures.writable

pub push_value-returns-in-Tag-clause-written : goal.push_value-returns-in-Tag-clause-written
push_value-returns-in-Tag-clause-written t c =
    rw (c.in-Tag.is, item_of-Tag c.in-Tag.tag c.in-Tag.inner, ← c.deref-in-Tag.ensures) c.push_tag.ensures.written
