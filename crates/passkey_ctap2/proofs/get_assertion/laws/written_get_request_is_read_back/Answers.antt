use Rattle.passkey_ctap2.proofs.GetMessages.{request_read_back}
use Rattle.passkey_ctap2.proofs.get_assertion.laws.written_get_request_is_read_back.Goals as goal

pub returns : goal.returns
returns c = request_read_back c.written_is_leading_item.ensures
