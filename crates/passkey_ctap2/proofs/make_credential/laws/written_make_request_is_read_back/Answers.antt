use Rattle.passkey_ctap2.proofs.MakeMessages.{request_read_back}
use Rattle.passkey_ctap2.proofs.make_credential.laws.written_make_request_is_read_back.Goals as goal

pub returns : goal.returns
returns c = request_read_back c.written_is_leading_item.ensures
