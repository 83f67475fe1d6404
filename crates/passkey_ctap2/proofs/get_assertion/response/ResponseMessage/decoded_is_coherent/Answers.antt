use Rattle.passkey_ctap2.proofs.GetMessages.{response_coherent}
use Rattle.passkey_ctap2.proofs.get_assertion.response.ResponseMessage.decoded_is_coherent.Goals as goal

pub returns : goal.returns
returns c = response_coherent c.given_data_are_coherent.ensures
