use Rattle.passkey_cbor.proofs.items.LeadingItems.{given_front}
use Rattle.passkey_cbor.proofs.laws.found_is_leading_item.Goals as goal

pub returns : goal.returns
returns c = given_front
