use Rattle.passkey_ctap2.proofs.GetInfos.{get_info_coherent}
use Rattle.passkey_ctap2.proofs.get_info.response.ResponseMessage.decoded_is_coherent.Goals as goal

pub returns : goal.returns
returns c = get_info_coherent
