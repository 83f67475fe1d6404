use Rattle.std.proofs.Common.{◌≡◌, ◌∙◌, ap, sym}
use Rattle.passkey_cbor.specs.CursorState.{CursorState}
use Rattle.passkey_cbor.proofs.items.EncodedFrom.{stands_front}
use Rattle.passkey_view.proofs.Placed.{view_of, is_inside}
use Rattle.passkey_view.proofs.item_view.view_ahead.Goals as goal

pub returns-then-not-skip-clause-view : goal.returns-then-not-skip-clause-view
returns-then-not-skip-clause-view c = λ x to l. c.if-not-skip.ensures.front.none x _ (stands_front x _ _ to l)

pub returns-in-None-clause-view : goal.returns-in-None-clause-view
returns-in-None-clause-view c = λ x to l.
    let bytes = ap (λ (w : CursorState). w.bytes) c.go_back.ensures ∙ c.if-not-skip.ensures.moves.same in
    let place = ap (λ (w : CursorState). w.place) c.go_back.ensures ∙ c.place-from.ensures in
    c.in-None.ensures.opens x to (rw (bytes, place) l)

pub returns-in-Some-clause-view : goal.returns-in-Some-clause-view
returns-in-Some-clause-view c =
    let p = c.if-not-skip.ensures.front in
    let bytes = ap (λ (w : CursorState). w.bytes) c.go_back.ensures ∙ p.bytes in
    let place = ap (λ (w : CursorState). w.place) c.go_back.ensures ∙ c.place-from.ensures in
    let inside = is_inside _ _ c.if-not-skip.ensures.moves in
    let v = view_of _ _ _ _ _ p bytes place c.in-Some.ensures.found inside c.in-Some.ensures.opens in
    (p.item, rw (c.place-from.ensures, c.place-end.ensures, c.place.ensures) v)
