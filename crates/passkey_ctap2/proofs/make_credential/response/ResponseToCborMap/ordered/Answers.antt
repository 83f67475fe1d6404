use Rattle.passkey_ctap2.specs.MakeResponse.{make_response_parts}
use Rattle.passkey_ctap2.proofs.MakeMessages.{response_law}
use Rattle.passkey_ctap2.proofs.make_credential.response.ResponseToCborMap.ordered.Goals as goal

pub returns : goal.returns
returns c = λ r. response_law.keys (make_response_parts r)
