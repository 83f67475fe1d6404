use Rattle.std.proofs.Common.{◌≡◌, None}
use Rattle.passkey_attestation.specs.Statements.{element}
use Rattle.passkey_explain_data.proofs.statement.compound_blame.Goals as goal
use Rattle.passkey_kinds.specs.Kind.{list_from}
use Rattle.passkey_kinds.specs.Words.{item_of, plain_kind}

pub returns-in-Err-Refused : goal.returns-in-Err-Refused
returns-in-Err-Refused c =
    let none : list_from (plain_kind element) (item_of c.args.value.now) ≡ None =
    rw c.in-Err-Refused.field-0-is at c.in-Err-Refused.ensures in
    rw none c.item_blame.ensures
