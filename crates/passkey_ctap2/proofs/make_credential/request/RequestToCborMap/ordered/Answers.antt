use Rattle.passkey_ctap2.specs.MakeRequest.{make_request_parts}
use Rattle.passkey_ctap2.proofs.MakeMessages.{request_law}
use Rattle.passkey_ctap2.proofs.make_credential.request.RequestToCborMap.ordered.Goals as goal

pub returns : goal.returns
returns c = λ r. request_law.keys (make_request_parts r)
