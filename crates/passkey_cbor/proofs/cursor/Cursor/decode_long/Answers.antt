use Rattle.std.proofs.Common.{◌≡◌, ◌≤◌, arith}
use Rattle.passkey_cbor.specs.CursorState.{raised}
use Rattle.passkey_cbor.proofs.skipping.Walks.{head_taken, head_read}
use Rattle.passkey_cbor.proofs.cursor.Cursor.decode_long.Goals as goal

pub overflow_sub-self : goal.overflow_sub-self
overflow_sub-self c =
    let t = head_taken c.self.inside.bytes.now c.self.inside.place c.in-Some.head c.in-Some.rest.now
    c.self.invariant c.in-Some.ensures in
    t.shorter

pub returns-in-Some-clause-reads : goal.returns-in-Some-clause-reads
returns-in-Some-clause-reads c =
    let t = head_taken c.self.inside.bytes.now c.self.inside.place c.in-Some.head c.in-Some.rest.now
    c.self.invariant c.in-Some.ensures in
    let one : c.saturating_add-self-inside.result ≡ raised c.self.inside.count.heads 1 =
    omega (arith, c.saturating_add-self-inside.ensures) in
    let rises : c.self.inside.count.heads ≤ c.saturating_add-self-inside.result =
    omega (arith, c.saturating_add-self-inside.ensures) in
    rw (← c.self.view_is) (head_read c.self.inside.bytes.now c.self.inside.place c.self.inside.count.heads
    c.saturating_add-self-inside.result c.self.inside.count.nodes c.in-Some.head c.in-Some.rest.now rises one t)
