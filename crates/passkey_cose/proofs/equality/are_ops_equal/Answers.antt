use Rattle.std.proofs.Common.{◌∙◌}
use Rattle.passkey_iana.specs.Iana.{key_operation_number}
use Rattle.passkey_cose.specs.Registered.{named_of, named_eq}
use Rattle.passkey_cose.proofs.KeyEnds.{pointwise-map}
use Rattle.passkey_cose.proofs.equality.are_ops_equal.Goals as goal

pub returns : goal.returns
returns c = c.eq.ensures ∙ pointwise-map named_of (named_eq key_operation_number) c.args.a.now c.args.b.now
