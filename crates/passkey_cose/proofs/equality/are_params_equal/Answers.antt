use Rattle.std.proofs.Common.{◌∙◌}
use Rattle.passkey_cose.specs.KeyParams.{param_of}
use Rattle.passkey_cose.specs.KeySame.{member_eq}
use Rattle.passkey_cose.proofs.KeyEnds.{pointwise-map}
use Rattle.passkey_cose.proofs.equality.are_params_equal.Goals as goal

pub returns : goal.returns
returns c = c.eq.ensures ∙ pointwise-map param_of member_eq c.args.a.now c.args.b.now
