use Rattle.passkey_kinds.proofs.Common.{◌∙◌}
use Rattle.passkey_ctap2.specs.GetResponse.{get_response_parts}
use Rattle.passkey_ctap2.proofs.GetMessages.{data_decide}
use Rattle.passkey_ctap2.proofs.get_assertion.response.Response.is_coherent.Goals as goal

pub returns : goal.returns
returns c = c.is_coherent.ensures ∙ data_decide (get_response_parts c.args.self.now)
