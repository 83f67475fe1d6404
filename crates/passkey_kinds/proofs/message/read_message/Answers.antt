use Rattle.passkey_kinds.proofs.Steps.{moves_back, message_is, fault_is}
use Rattle.passkey_kinds.proofs.message.read_message.Goals as goal

pub returns-in-Ok : goal.returns-in-Ok
returns-in-Ok g c =
    let back = moves_back _ _ _ _ c.place-start.ensures c.go_back.ensures in
    message_is g.R.Record.parts g.R.Record.fields _ _ _ _ c.if-not-skip.ensures.front c.if-not-skip.ensures.moves back
    c.in-Ok.ensures.onward c.in-Ok.message c.in-Ok.ensures.reads

pub returns-in-Err : goal.returns-in-Err
returns-in-Err g c =
    let back = moves_back _ _ _ _ c.place-start.ensures c.go_back.ensures in
    fault_is g.R.Record.parts g.R.Record.fields _ _ _ _ c.if-not-skip.ensures.front c.if-not-skip.ensures.moves back
    c.in-Err.ensures.onward c.in-Err.fault _ _ c.place-start.ensures c.go_back-in-Err.ensures c.in-Err.ensures.reads
