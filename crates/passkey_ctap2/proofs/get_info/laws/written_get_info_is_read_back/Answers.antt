use Rattle.passkey_ctap2.proofs.GetInfos.{get_info_read_back}
use Rattle.passkey_ctap2.proofs.get_info.laws.written_get_info_is_read_back.Goals as goal

pub returns : goal.returns
returns c = get_info_read_back c.written_is_leading_item.ensures
