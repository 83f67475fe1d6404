use Rattle.passkey_cose.proofs.KeyBack.{key_back}
use Rattle.passkey_cose.proofs.laws.written_key_is_read_back.Goals as goal

pub returns : goal.returns
returns c = key_back
