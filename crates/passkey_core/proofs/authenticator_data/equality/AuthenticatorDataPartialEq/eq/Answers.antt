use Rattle.std.proofs.Common.{sym, ◌∙◌}
use Rattle.passkey_core.specs.DataViews.{data_parts}
use Rattle.passkey_core.specs.DataSame.{data_Decides}
use Rattle.passkey_core.proofs.authenticator_data.equality.AuthenticatorDataPartialEq.eq.Goals as goal

pub returns-clause-same : goal.returns-clause-same
returns-clause-same c =
    let decides = data_Decides (data_parts c.args.self.now) (data_parts c.args.other.now) in
    (λ yes. decides.0 (sym c.are_equal.ensures ∙ yes), λ same. c.are_equal.ensures ∙ decides.1 same)
