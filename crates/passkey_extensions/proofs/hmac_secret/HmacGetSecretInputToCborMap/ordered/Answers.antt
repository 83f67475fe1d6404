use Rattle.passkey_extensions.proofs.Extensions.{hmac_input_keys}
use Rattle.passkey_extensions.proofs.hmac_secret.HmacGetSecretInputToCborMap.ordered.Goals as goal
use Rattle.passkey_extensions.specs.HmacInput.{hmac_input_parts}

pub returns : goal.returns
returns c = λ h. hmac_input_keys (hmac_input_parts h)
