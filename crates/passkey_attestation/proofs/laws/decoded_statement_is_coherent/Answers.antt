use Rattle.passkey_attestation.proofs.Coherent.{decoded_is_coherent}
use Rattle.passkey_attestation.proofs.laws.decoded_statement_is_coherent.Goals as goal

pub returns : goal.returns
returns c = decoded_is_coherent
