use Rattle.passkey_cbor_text.proofs.Ascending.{members_ascend as holds}
use Rattle.passkey_cbor_text.proofs.values.laws.members_ascend.Goals as goal

pub returns : goal.returns
returns c = holds
