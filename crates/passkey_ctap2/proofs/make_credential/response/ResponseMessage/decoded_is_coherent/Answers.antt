use Rattle.passkey_ctap2.proofs.MakeMessages.{response_coherent}
use Rattle.passkey_ctap2.proofs.make_credential.response.ResponseMessage.decoded_is_coherent.Goals as goal

pub returns : goal.returns
returns c = response_coherent c.given_data_are_coherent.ensures
