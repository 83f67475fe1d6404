use Rattle.std.proofs.Common.{◌≡◌, ◌∙◌, ap, ◌-◌}
use Rattle.passkey_cbor.specs.CursorState.{CursorState}
use Rattle.passkey_view.proofs.Placed.{moved_view, nearer, sliced}
use Rattle.passkey_view.proofs.item_view.item_at.Goals as goal

pub returns-in-None : goal.returns-in-None
returns-in-None c = λ x to l.
    let bytes = ap (λ (w : CursorState). w.bytes) c.new.ensures ∙ sliced c.args.bytes.now c.args.offset in
    let place = ap (λ (w : CursorState). w.place) c.new.ensures in
    c.in-None.ensures.view x (to - c.args.offset) (rw (bytes, place) (nearer c.args.bytes.now c.args.offset c.if-offset-bytes.false _ to l))

pub returns-in-Some : goal.returns-in-Some
returns-in-Some c =
    let bytes = ap (λ (w : CursorState). w.bytes) c.new.ensures ∙ sliced c.args.bytes.now c.args.offset in
    let place = ap (λ (w : CursorState). w.place) c.new.ensures in
    let v = rw (bytes, place) at c.in-Some.ensures.view in
    (v.0, rw c.moved.ensures (moved_view c.args.bytes.now c.args.offset c.if-offset-bytes.false v.0 _ v.1))
