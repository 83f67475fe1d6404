use Rattle.passkey_explain_data.proofs.statement.item_blame.Goals as goal
use Rattle.passkey_explain_data.specs.StatementBlame.{in_item}
use Rattle.passkey_kinds.proofs.Steps.{ap, refl}
use Rattle.passkey_kinds.specs.Look.{tested}

pub explain_at-requires : goal.explain_at-requires
explain_at-requires g c = (tested g.T.FromCbor.typed, refl)

pub returns : goal.returns
returns g c = ap in_item (c.in_ok-explain_at.ensures (tested g.T.FromCbor.typed) refl)
