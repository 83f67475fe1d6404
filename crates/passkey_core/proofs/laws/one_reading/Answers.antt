use Rattle.passkey_core.proofs.DataOne.{one_reading}
use Rattle.passkey_core.proofs.laws.one_reading.Goals as goal

pub returns : goal.returns
returns c = one_reading c.at_most_one_leading_item.ensures
