use Rattle.std.proofs.Common.{sym}
use Rattle.passkey_cose.specs.KeyReading.{read_key}
use Rattle.passkey_explain_data.proofs.DataLength.{attested_absent, attested_ends, item_ends}
use Rattle.passkey_explain_data.proofs.measuring.after_attested.Goals as goal

pub returns-in-Ok : goal.returns-in-Ok
returns-in-Ok c =
    attested_ends c.args.whole.now c.args.rest.now c.in-Ok.key.now c.after_item.result.now (sym c.in-Ok.ensures)
    (item_ends read_key c.in-Ok.key.now c.after_item.result.now c.after_item.ensures)

pub returns-in-Err : goal.returns-in-Err
returns-in-Err c =
    attested_absent c.args.whole.now c.args.rest.now c.args.rest.now c.in-Err.field-0 (sym c.in-Err.ensures)
