use Rattle.passkey_explain_data.specs.DataBlame.{BlamesData}
use Rattle.passkey_explain_data.proofs.DataVerdict.{data_fault}
use Rattle.passkey_explain_data.proofs.data.explain_data.Goals as goal

pub returns-in-Err-Refused : goal.returns-in-Err-Refused
returns-in-Err-Refused c =
    let refused : BlamesData c.args.bytes.now c.in-Err-Refused.refusal =
    rw c.in-Err-Refused.field-0-is at c.in-Err-Refused.ensures in
    (data_fault c.args.bytes.now c.in-Err-Refused.refusal refused, refused)
