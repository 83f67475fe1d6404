use Rattle.std.proofs.Common.{rules}
use Rattle.passkey_cose.specs.Key.{key_parts}
use Rattle.passkey_cose.proofs.KeyGood.{good_iv}
use Rattle.passkey_cose.proofs.key.CoseKey.with_base_iv.Goals as goal

pub invariant_of-self-clause-good : goal.invariant_of-self-clause-good
invariant_of-self-clause-good c =
    good_iv (key_parts c.args.self) c.args.iv.items
    (record { good = c.args.self.good; separate = c.args.self.separate }) (search rules)
