use Rattle.std.proofs.Common.{rules}
use Rattle.passkey_cose.specs.Registered.{named_of}
use Rattle.passkey_cose.specs.RegisteredSame.{named_Decides}
use Rattle.passkey_cose.proofs.registered.RegisteredPartialEq.eq.Goals as goal

pub returns-clause-same : goal.returns-clause-same
returns-clause-same g c = search
    (rules, named_Decides g.met.T.EnumI64.numbers_name (named_of c.args.self.now) (named_of c.args.other.now))
