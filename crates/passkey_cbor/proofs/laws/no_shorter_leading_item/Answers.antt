use Rattle.passkey_cbor.proofs.items.LeadingItems.{no_shorter}
use Rattle.passkey_cbor.proofs.laws.no_shorter_leading_item.Goals as goal

pub returns : goal.returns
returns c = no_shorter
