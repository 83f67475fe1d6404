use Rattle.passkey_core.proofs.DataCoherent.{given_is_coherent}
use Rattle.passkey_core.proofs.laws.given_data_are_coherent.Goals as goal

pub returns : goal.returns
returns c = given_is_coherent c.given_is_shallow.ensures c.read_key_is_readable.ensures
