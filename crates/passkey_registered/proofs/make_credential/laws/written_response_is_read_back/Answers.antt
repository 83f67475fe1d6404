use Rattle.passkey_kinds.proofs.Numbered.{messages_back}
use Rattle.passkey_registered.proofs.Responses.{mc_response_law}
use Rattle.passkey_registered.specs.make_credential.McResponse.{mc_response}
use Rattle.std.specs.Prelude.{true}
use Rattle.passkey_registered.proofs.make_credential.laws.written_response_is_read_back.Goals as goal

pub returns : goal.returns
returns c = messages_back true (λ r. r) mc_response c.written_is_leading_item.ensures mc_response_law.back
