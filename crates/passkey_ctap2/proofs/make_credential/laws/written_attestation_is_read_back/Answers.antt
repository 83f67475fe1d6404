use Rattle.passkey_ctap2.proofs.MakeMessages.{attestation_read_back}
use Rattle.passkey_ctap2.proofs.make_credential.laws.written_attestation_is_read_back.Goals as goal

pub returns : goal.returns
returns c = attestation_read_back c.written_is_leading_item.ensures c.written_data_are_read_back.ensures
    c.read_is_given.ensures
