use Rattle.passkey_cbor.proofs.skipping.Walks.{short_read}
use Rattle.passkey_cbor.proofs.skipping.Advancing.{array_begun, map_begun, tag_begun}
use Rattle.passkey_cbor.proofs.cursor.Cursor.skip_part.Goals as goal

pub returns-in-Some-Array : goal.returns-in-Some-Array
returns-in-Some-Array c =
    let h = c.in-Some-Array.ensures in
    array_begun c.args.self.now c.pass_leaf.new.self c.in-Some-Array.field-0 c.in-Some-Array.len c.array.result
    c.in-Some-Array.field-0-is (short_read c.args.self.now c.pass_leaf.new.self c.in-Some-Array.field-0 h.placed h.within
    h.reads c.pass_leaf.ensures.passed c.pass_leaf.ensures.rises) c.array.ensures

pub returns-in-Some-Map : goal.returns-in-Some-Map
returns-in-Some-Map c =
    let h = c.in-Some-Map.ensures in
    map_begun c.args.self.now c.pass_leaf-in-Some-Map.new.self c.in-Some-Map.field-0 c.in-Some-Map.len c.map.result
    c.in-Some-Map.field-0-is (short_read c.args.self.now c.pass_leaf-in-Some-Map.new.self c.in-Some-Map.field-0 h.placed
    h.within h.reads c.pass_leaf-in-Some-Map.ensures.passed c.pass_leaf-in-Some-Map.ensures.rises)
    (rw (← c.self.view_is) c.self.told.0) c.map.ensures

pub returns-in-Some-Tag : goal.returns-in-Some-Tag
returns-in-Some-Tag c =
    let h = c.in-Some-Tag.ensures in
    tag_begun c.args.self.now c.pass_leaf-in-Some-Tag.new.self c.in-Some-Tag.field-0 c.in-Some-Tag.field-0-0
    c.in-Some-Tag.field-0-is (short_read c.args.self.now c.pass_leaf-in-Some-Tag.new.self c.in-Some-Tag.field-0 h.placed
    h.within h.reads c.pass_leaf-in-Some-Tag.ensures.passed c.pass_leaf-in-Some-Tag.ensures.rises)
