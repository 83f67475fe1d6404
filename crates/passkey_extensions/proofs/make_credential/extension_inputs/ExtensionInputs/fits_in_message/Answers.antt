use Rattle.passkey_kinds.proofs.Common.{◌∙◌, option_map, ap}
use Rattle.passkey_extensions.specs.HmacInput.{hmac_input_parts}
use Rattle.passkey_extensions.specs.MakeExtensions.{make_extensions_parts}
use Rattle.passkey_extensions.proofs.Extensions.{make_credential_levels}
use Rattle.passkey_extensions.proofs.make_credential.extension_inputs.ExtensionInputs.fits_in_message.Goals as goal

pub returns-in-Some : goal.returns-in-Some
returns-in-Some c = c.is_within.ensures ∙ make_credential_levels.present (make_extensions_parts c.args.self.now)
    (hmac_input_parts c.in-Some.input) (ap (option_map hmac_input_parts) c.in-Some.is)

pub returns-in-None : goal.returns-in-None
returns-in-None c =
    make_credential_levels.absent (make_extensions_parts c.args.self.now) (ap (option_map hmac_input_parts) c.in-None.is)
