use Rattle.std.proofs.Common.{sym}
use Rattle.passkey_malformed.proofs.Suffixes.{ends_short, is_malformed}
use Rattle.passkey_malformed.proofs.Judged.{none_there}
use Rattle.passkey_malformed.proofs.Leading.{leads}
use Rattle.passkey_malformed.proofs.first_fault.malformed.Goals as goal

pub overflow_sub-offset : goal.overflow_sub-offset
overflow_sub-offset c = ends_short c.in-Err.ensures

pub returns-in-Ok : goal.returns-in-Ok
returns-in-Ok c = leads c.args.bytes.now _ c.in-Ok.ensures

pub returns-in-Err : goal.returns-in-Err
returns-in-Err c =
    is_malformed c.args.bytes.now _ _ (none_there c.item_len.result _ _ c.item_len.ensures (sym c.if-is_some.ensures))
    c.in-Err.ensures
