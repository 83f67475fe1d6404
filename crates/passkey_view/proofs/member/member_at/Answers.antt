use Rattle.std.proofs.Common.{◌≡◌, ◌∙◌, ap, ◌-◌}
use Rattle.passkey_cbor.specs.CursorState.{CursorState}
use Rattle.passkey_view.proofs.Placed.{nearer, sliced, moved_member}
use Rattle.passkey_view.proofs.member.member_at.Goals as goal

pub returns-in-None : goal.returns-in-None
returns-in-None g c = λ ms to l.
    let bytes = ap (λ (w : CursorState). w.bytes) c.new.ensures ∙ sliced c.args.bytes.now c.args.offset in
    let place = ap (λ (w : CursorState). w.place) c.new.ensures in
    c.in-None.ensures ms (to - c.args.offset)
    (rw (bytes, place) (nearer c.args.bytes.now c.args.offset c.if-offset-bytes.false _ to l))

pub returns-in-Some : goal.returns-in-Some
returns-in-Some g c =
    let bytes = ap (λ (w : CursorState). w.bytes) c.new.ensures ∙ sliced c.args.bytes.now c.args.offset in
    let place = ap (λ (w : CursorState). w.place) c.new.ensures in
    let m = rw (bytes, place) at c.in-Some.ensures in
    rw c.moved.ensures (moved_member c.args.bytes.now c.args.offset c.if-offset-bytes.false _ _ m)
