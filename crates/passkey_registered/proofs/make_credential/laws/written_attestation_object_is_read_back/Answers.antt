use Rattle.passkey_kinds.proofs.Numbered.{messages_back}
use Rattle.passkey_registered.proofs.Responses.{attestation_object_law}
use Rattle.passkey_registered.specs.make_credential.AttestationObject.{attestation_object}
use Rattle.std.specs.Prelude.{true}
use Rattle.passkey_registered.proofs.make_credential.laws.written_attestation_object_is_read_back.Goals as goal

pub returns : goal.returns
returns c = messages_back true (λ r. r) attestation_object c.written_is_leading_item.ensures attestation_object_law.back
