use Rattle.passkey_extensions.proofs.Extensions.{make_extensions_keys}
use Rattle.passkey_extensions.proofs.make_credential.extension_inputs.ExtensionInputsToCborMap.ordered.Goals as goal
use Rattle.passkey_extensions.specs.MakeExtensions.{make_extensions_parts}

pub returns : goal.returns
returns c = λ e. make_extensions_keys (make_extensions_parts e)
