use Rattle.passkey_kinds.proofs.Steps.{arith, subst, ap, Err, err_from_is_err_and}
use Rattle.passkey_kinds.specs.Words.{ReadsMessage, read_item}
use Rattle.passkey_cbor.specs.CursorState.{CursorState, ahead}
use Rattle.passkey_kinds.proofs.message.message_from_slice.Goals as goal

pub returns-clause-reads : goal.returns-clause-reads
returns-clause-reads g c =
    let read = c.in_ok-message.ensures.reads in
    let place = ap (λ (w : CursorState). w.place) c.new-cursor.ensures in
    record {
      item = read.item;
      len = read.len;
      front = rw c.new-cursor.ensures at read.front;
      holds = (omega (arith, read.holds.0, place), read.holds.1);
    }

pub returns-clause-grows : goal.returns-clause-grows
returns-clause-grows g c = λ none. absurd cc

pub returns-in_err-message-clause-reads : goal.returns-in_err-message-clause-reads
returns-in_err-message-clause-reads g c =
    let p = err_from_is_err_and c.from_residual.result c.from_residual.ensures.1 in
    rw (p.1, p.2) (subst (λ w. ReadsMessage g.R.Record.parts (read_item g.R.Record.fields) (ahead w)
    (Err c.in_err-message.field-0.0)) c.new-cursor.ensures c.in_err-message.ensures.reads)

pub returns-in_err-message-clause-grows : goal.returns-in_err-message-clause-grows
returns-in_err-message-clause-grows g c = λ full.
    let p = err_from_is_err_and c.from_residual.result c.from_residual.ensures.1 in
    rw c.new-cursor.ensures at c.in_err-message.ensures.grows cc
