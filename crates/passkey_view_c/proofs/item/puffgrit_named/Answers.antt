use Rattle.passkey_view_c.proofs.Outputs.{writes}
use Rattle.passkey_view_c.proofs.item.puffgrit_named.Goals as goal

pub returns-in-Ok-clause-found : goal.returns-in-Ok-clause-found
returns-in-Ok-clause-found c = λ _.
    writes _ _ _ _ _ _ (rw c.in-Ok.ensures.cases.0 at c.member_at.ensures) c.fill.ensures
