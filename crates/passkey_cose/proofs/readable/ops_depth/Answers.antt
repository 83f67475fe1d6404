use Rattle.std.proofs.Common.{sym}
use Rattle.passkey_cose.specs.Registered.{named_of}
use Rattle.passkey_cose.proofs.KeyDepth.{some_ops_depth}
use Rattle.passkey_cose.proofs.readable.ops_depth.Goals as goal

pub returns-in_default : goal.returns-in_default
returns-in_default c = sym (some_ops_depth named_of c.args.ops.now c.in_default.len_at_least)
