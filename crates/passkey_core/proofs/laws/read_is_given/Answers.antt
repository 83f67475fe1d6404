use Rattle.passkey_core.proofs.DataGiven.{read_is_given}
use Rattle.passkey_core.proofs.laws.read_is_given.Goals as goal

pub returns : goal.returns
returns c = read_is_given c.leading_item_is_found.ensures
