use Rattle.std.proofs.Common.{arith}
use Rattle.std.proofs.Math.Pow.{pow_mono}
use Rattle.passkey_cbor_text.proofs.diagnose.float.push_quotient.Goals as goal

pub push_digits_after-requires-clause-fits : goal.push_digits_after-requires-clause-fits
push_digits_after-requires-clause-fits c = omega (arith, c.pow-whole.ensures, pow_mono {i = c.args.k} {j = 60} (omega arith))
