use Rattle.passkey_kinds.proofs.Common.{◌∙◌, option_map, ap}
use Rattle.passkey_extensions.specs.HmacInput.{hmac_input_parts}
use Rattle.passkey_extensions.specs.GetExtensions.{get_extensions_parts}
use Rattle.passkey_extensions.proofs.Extensions.{get_assertion_levels}
use Rattle.passkey_extensions.proofs.get_assertion.extension_inputs.ExtensionInputs.fits_in_message.Goals as goal

pub returns-in-Some : goal.returns-in-Some
returns-in-Some c = c.is_within.ensures ∙ get_assertion_levels.present (get_extensions_parts c.args.self.now)
    (hmac_input_parts c.in-Some.input) (ap (option_map hmac_input_parts) c.in-Some.is)

pub returns-in-None : goal.returns-in-None
returns-in-None c =
    get_assertion_levels.absent (get_extensions_parts c.args.self.now) (ap (option_map hmac_input_parts) c.in-None.is)
