use Rattle.std.proofs.Common.{rules}
use Rattle.passkey_cose.specs.Key.{key_parts}
use Rattle.passkey_cose.proofs.KeyGood.{good_name}
use Rattle.passkey_cose.proofs.key.CoseKey.with_key_id.Goals as goal

pub invariant_of-self-clause-good : goal.invariant_of-self-clause-good
invariant_of-self-clause-good c =
    good_name (key_parts c.args.self) c.args.id.items
    (record { good = c.args.self.good; separate = c.args.self.separate }) (search rules)
