use Rattle.std.proofs.Common.{arith}
use Rattle.passkey_view.proofs.Parts.{where_set}
use Rattle.passkey_view.proofs.data_view.attested_where.Goals as goal

pub returns-in-None : goal.returns-in-None
returns-in-None c = where_set _ _ (grind arith) c.in-None.ensures
