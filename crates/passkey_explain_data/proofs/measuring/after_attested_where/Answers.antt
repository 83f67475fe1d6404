use Rattle.passkey_core.specs.DataReading.{ReadsAttested}
use Rattle.passkey_explain_data.proofs.DataLength.{where_ends}
use Rattle.passkey_explain_data.proofs.measuring.after_attested_where.Goals as goal

pub returns-then-is_there : goal.returns-then-is_there
returns-then-is_there c =
    where_ends c.args.is_there ReadsAttested c.args.rest.now c.after_attested.result.now c.if-is_there.true
    c.after_attested.ensures
