use Rattle.passkey_cbor.proofs.items.Null.{null_else}
use Rattle.passkey_cbor.proofs.cursor.Cursor.begins_null.Goals as goal

pub returns-else-bytes-place-clause-is : goal.returns-else-bytes-place-clause-is
returns-else-bytes-place-clause-is c =
    let s = c.self.inside in
    rw (← c.self.view_is) (null_else s.bytes.now s.place c.if-place-bytes.true c.if-bytes-place.false)
