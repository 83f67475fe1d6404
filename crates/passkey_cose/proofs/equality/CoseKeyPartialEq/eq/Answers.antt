use Rattle.std.proofs.Common.{sym, ◌∙◌}
use Rattle.passkey_cose.specs.Key.{key_parts}
use Rattle.passkey_cose.specs.KeySameLaws.{parts_Decides}
use Rattle.passkey_cose.proofs.equality.CoseKeyPartialEq.eq.Goals as goal

pub returns-clause-same : goal.returns-clause-same
returns-clause-same c =
    let decides = parts_Decides (key_parts c.args.self.now) (key_parts c.args.other.now) in
    (λ yes. decides.0 (sym c.are_equal.ensures ∙ yes), λ same. c.are_equal.ensures ∙ decides.1 same)
