use Rattle.passkey_kinds.proofs.Steps.{true, looks_all, looks_some}
use Rattle.passkey_kinds.proofs.from_text.text_value.Goals as goal

pub returns-in_err-text-in-None-clause-looks : goal.returns-in_err-text-in-None-clause-looks
returns-in_err-text-in-None-clause-looks g c =
    looks_some c.in_err-text-in-None.ensures.rises true c.requires c.in_err-text-in-None.ensures.looks

pub returns-in_err-from_text-in-None-clause-looks : goal.returns-in_err-from_text-in-None-clause-looks
returns-in_err-from_text-in-None-clause-looks g c =
    looks_all c.in_ok-text-in-None.ensures.rises true c.requires c.in_ok-text-in-None.ensures.looks

pub returns-in_ok-from_text-in-None-clause-looks : goal.returns-in_ok-from_text-in-None-clause-looks
returns-in_ok-from_text-in-None-clause-looks g c =
    looks_all c.in_ok-text-in-None.ensures.rises true c.requires c.in_ok-text-in-None.ensures.looks
