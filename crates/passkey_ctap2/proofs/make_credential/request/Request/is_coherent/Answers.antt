use Rattle.passkey_kinds.proofs.Common.{◌∙◌, option_map, ap}
use Rattle.passkey_extensions.specs.MakeExtensions.{make_extensions_parts}
use Rattle.passkey_ctap2.specs.MakeRequest.{make_request_parts}
use Rattle.passkey_ctap2.proofs.MakeMessages.{request_law}
use Rattle.passkey_ctap2.proofs.make_credential.request.Request.is_coherent.Goals as goal

pub returns-in-Some : goal.returns-in-Some
returns-in-Some c = c.fits_in_message.ensures ∙ request_law.levels.present (make_request_parts c.args.self.now)
    (make_extensions_parts c.in-Some.extensions) (ap (option_map make_extensions_parts) c.in-Some.is)

pub returns-in-None : goal.returns-in-None
returns-in-None c =
    request_law.levels.absent (make_request_parts c.args.self.now) (ap (option_map make_extensions_parts) c.in-None.is)
