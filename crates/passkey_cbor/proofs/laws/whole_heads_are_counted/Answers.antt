use Rattle.passkey_cbor.proofs.heads.HeadCounts.{heads_are}
use Rattle.passkey_cbor.proofs.laws.whole_heads_are_counted.Goals as goal

pub returns : goal.returns
returns c = heads_are
