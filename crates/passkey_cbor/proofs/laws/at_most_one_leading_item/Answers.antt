use Rattle.passkey_cbor.proofs.items.LeadingItems.{at_most_one}
use Rattle.passkey_cbor.proofs.laws.at_most_one_leading_item.Goals as goal

pub returns : goal.returns
returns c = at_most_one
