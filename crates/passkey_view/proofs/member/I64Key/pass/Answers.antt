use Rattle.std.proofs.Common.{◌≡◌, ◌∙◌, ap}
use Rattle.passkey_cbor.specs.CursorState.{CursorState}
use Rattle.passkey_view.proofs.Keys.{is_number, and_then}
use Rattle.passkey_view.proofs.member.I64Key.pass.Goals as goal

pub returns-then-skip-clause-passes : goal.returns-then-skip-clause-passes
returns-then-skip-clause-passes c = λ x to l.
    let bytes = ap (λ (w : CursorState). w.bytes) c.go_back.ensures ∙ c.head.ensures.moves.same in
    let place = ap (λ (w : CursorState). w.place) c.go_back.ensures ∙ c.place-start.ensures in
    let p = c.if-skip.ensures.passes x to (rw (bytes, place) l) in
    record {
      is = and_then c.is_number-found.ensures (is_number _ x c.args.self.now to c.head.new.self (c.head.ensures.opens x to l));
      place = p.place;
      bytes = p.bytes ∙ bytes;
    }

pub returns-else-skip-clause-passes : goal.returns-else-skip-clause-passes
returns-else-skip-clause-passes c = λ x to l.
    let bytes = ap (λ (w : CursorState). w.bytes) c.go_back.ensures ∙ c.head.ensures.moves.same in
    let place = ap (λ (w : CursorState). w.place) c.go_back.ensures ∙ c.place-start.ensures in
    let p = c.if-skip.ensures.passes x to (rw (bytes, place) l) in
    let found = p.is_found in
    absurd cc
