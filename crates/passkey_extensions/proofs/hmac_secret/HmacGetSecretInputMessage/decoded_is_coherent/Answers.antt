use Rattle.passkey_extensions.proofs.Extensions.{hmac_input_coherent}
use Rattle.passkey_extensions.proofs.hmac_secret.HmacGetSecretInputMessage.decoded_is_coherent.Goals as goal

pub returns : goal.returns
returns c = hmac_input_coherent
