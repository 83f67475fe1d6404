use Rattle.passkey_cbor.proofs.items.WrittenIsEncoding as encoded
use Rattle.passkey_cbor.proofs.laws.written_is_encoding.Goals as goal

pub returns : goal.returns
returns c = encoded.written_is_encoding
