use Rattle.std.proofs.Common.{arith}
use Rattle.passkey_cbor.proofs.building.Views.{item_of-Tag, item_of-Array, item_of-Map}
use Rattle.passkey_cbor.proofs.depth.+depth.Goals as goal

pub depth_of-returns-in-Map : goal.depth_of-returns-in-Map
depth_of-returns-in-Map t c =
    rw (c.in-Map.is, item_of-Map c.in-Map.pairs, ← c.deref-in-Map.ensures.value) (omega arith)

pub depth_of-returns-in-Array : goal.depth_of-returns-in-Array
depth_of-returns-in-Array t c =
    rw (c.in-Array.is, item_of-Array c.in-Array.items, ← c.deref-in-Array.ensures.value) (omega arith)

pub depth_of-returns-in-Tag : goal.depth_of-returns-in-Tag
depth_of-returns-in-Tag t c =
    rw (c.in-Tag.is, item_of-Tag c.in-Tag.field-0 c.in-Tag.inner, ← c.deref.ensures) (omega arith)
