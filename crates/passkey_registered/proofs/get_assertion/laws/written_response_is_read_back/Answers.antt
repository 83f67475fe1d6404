use Rattle.passkey_kinds.proofs.Numbered.{messages_back}
use Rattle.passkey_registered.proofs.Responses.{ga_response_law}
use Rattle.passkey_registered.specs.get_assertion.GaResponse.{ga_response}
use Rattle.std.specs.Prelude.{true}
use Rattle.passkey_registered.proofs.get_assertion.laws.written_response_is_read_back.Goals as goal

pub returns : goal.returns
returns c = messages_back true (λ r. r) ga_response c.written_is_leading_item.ensures ga_response_law.back
