use Rattle.passkey_cbor.proofs.items.Reach.{given_shallow}
use Rattle.passkey_cbor.proofs.laws.given_is_shallow.Goals as goal

pub returns : goal.returns
returns c = given_shallow
