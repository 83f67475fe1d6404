use Rattle.passkey_ctap2.specs.GetRequest.{get_request_parts}
use Rattle.passkey_ctap2.proofs.GetMessages.{request_law}
use Rattle.passkey_ctap2.proofs.get_assertion.request.RequestToCborMap.ordered.Goals as goal

pub returns : goal.returns
returns c = λ r. request_law.keys (get_request_parts r)
