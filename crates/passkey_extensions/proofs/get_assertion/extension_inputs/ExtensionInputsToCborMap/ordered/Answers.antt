use Rattle.passkey_extensions.proofs.Extensions.{get_extensions_keys}
use Rattle.passkey_extensions.proofs.get_assertion.extension_inputs.ExtensionInputsToCborMap.ordered.Goals as goal
use Rattle.passkey_extensions.specs.GetExtensions.{get_extensions_parts}

pub returns : goal.returns
returns c = λ e. get_extensions_keys (get_extensions_parts e)
