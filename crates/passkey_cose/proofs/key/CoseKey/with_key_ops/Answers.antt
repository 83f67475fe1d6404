use Rattle.std.proofs.Common.{rules, map}
use Rattle.passkey_cose.specs.Key.{key_parts}
use Rattle.passkey_cose.specs.Registered.{named_of}
use Rattle.passkey_cose.proofs.KeyGood.{good_ops}
use Rattle.passkey_cose.proofs.key.CoseKey.with_key_ops.Goals as goal

pub invariant_of-self-clause-good : goal.invariant_of-self-clause-good
invariant_of-self-clause-good c =
    good_ops (key_parts c.args.self) (map named_of c.args.ops.items)
    (record { good = c.args.self.good; separate = c.args.self.separate }) (search rules) (search rules)
