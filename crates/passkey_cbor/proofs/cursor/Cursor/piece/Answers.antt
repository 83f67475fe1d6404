use Rattle.passkey_cbor.proofs.skipping.Walks.{piece_taken, piece_read}
use Rattle.passkey_cbor.proofs.cursor.Cursor.piece.Goals as goal

pub overflow_sub-self : goal.overflow_sub-self
overflow_sub-self c =
    let t = piece_taken c.args.is_text c.args.len c.self.inside.bytes.now c.self.inside.place c.in-Some.piece.now
    c.in-Some.rest.now c.self.invariant c.in-Some.ensures in
    t.shorter

pub returns-in-Some-clause-reads : goal.returns-in-Some-clause-reads
returns-in-Some-clause-reads c =
    let t = piece_taken c.args.is_text c.args.len c.self.inside.bytes.now c.self.inside.place c.in-Some.piece.now
    c.in-Some.rest.now c.self.invariant c.in-Some.ensures in
    rw (← c.self.view_is) (piece_read c.args.is_text c.args.len c.self.inside.bytes.now c.self.inside.place
    c.self.inside.count.heads c.self.inside.count.nodes c.in-Some.piece.now c.in-Some.rest.now t)
