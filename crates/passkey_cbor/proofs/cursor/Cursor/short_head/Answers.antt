use Rattle.passkey_cbor.proofs.heads.ShortHeads.{short_at}
use Rattle.passkey_cbor.proofs.cursor.Cursor.short_head.Goals as goal

pub returns-then-place-bytes-clause-reads : goal.returns-then-place-bytes-clause-reads
returns-then-place-bytes-clause-reads c =
    let s = c.self.inside in
    rw (← c.self.view_is) (short_at s.bytes.now s.place c.short.result c.if-place-bytes.true c.short.ensures)
