use Rattle.std.proofs.Common.{rules}
use Rattle.passkey_cose.specs.Key.{key_parts}
use Rattle.passkey_cose.proofs.KeyDepth.{key_depth_is}
use Rattle.passkey_cose.proofs.readable.key_depth.Goals as goal

pub returns : goal.returns
returns c = rw (key_depth_is (key_parts c.args.key.now)) (search rules)
