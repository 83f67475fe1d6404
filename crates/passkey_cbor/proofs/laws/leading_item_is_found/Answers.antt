use Rattle.passkey_cbor.proofs.items.LeadingItems.{front_given}
use Rattle.passkey_cbor.proofs.laws.leading_item_is_found.Goals as goal

pub returns : goal.returns
returns c = front_given
