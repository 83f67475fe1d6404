use Rattle.passkey_kinds.proofs.Steps.{refl}
use Rattle.passkey_kinds.specs.Look.{tested}
use Rattle.passkey_kinds.specs.RecordReading.{nested}
use Rattle.passkey_explain.proofs.description.describe.Goals as goal

pub returns : goal.returns
returns g c = c.describe_at.ensures (tested (nested g.M.Record.fields)) refl
