use Rattle.passkey_cose.specs.Key.{key_parts}
use Rattle.passkey_cose.specs.Registered.{named_of}
use Rattle.passkey_cose.proofs.KeyGood.{good_algorithm}
use Rattle.passkey_cose.proofs.key.CoseKey.with_algorithm.Goals as goal

pub invariant_of-self-clause-good : goal.invariant_of-self-clause-good
invariant_of-self-clause-good c =
    good_algorithm (key_parts c.args.self) (named_of c.args.alg)
    (record { good = c.args.self.good; separate = c.args.self.separate }) c.value_is_name.ensures
