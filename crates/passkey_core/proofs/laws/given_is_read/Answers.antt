use Rattle.passkey_core.proofs.DataGiven.{given_is_read}
use Rattle.passkey_core.proofs.laws.given_is_read.Goals as goal

pub returns : goal.returns
returns c = given_is_read c.found_is_leading_item.ensures
