use Rattle.passkey_kinds.proofs.Steps.{back_if_few}
use Rattle.passkey_extensions.specs.HmacInput.{read_hmac_input}
use Rattle.passkey_extensions.proofs.Extensions.{hmac_message_back}
use Rattle.passkey_extensions.proofs.laws.written_hmac_input_is_read_back.Goals as goal

pub returns : goal.returns
returns c = back_if_few read_hmac_input _ _ _ c.written_is_leading_item.ensures hmac_message_back
