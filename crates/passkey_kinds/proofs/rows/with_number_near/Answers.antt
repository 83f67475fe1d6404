use Rattle.passkey_kinds.proofs.Steps.{◌∙◌, found_at, sym}
use Rattle.passkey_kinds.proofs.rows.with_number_near.Goals as goal

pub returns-in-Some : goal.returns-in-Some
returns-in-Some c =
    sym (found_at c.args.number _ c.args.rows.now c.in-Some.row.now c.in-Some.ensures.lookup.3.0
    c.in-Some.ensures.lookup.1 (sym c.number.ensures ∙ c.if-number.true))
