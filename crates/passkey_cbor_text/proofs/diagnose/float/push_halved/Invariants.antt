use Rattle.std.proofs.Common.{◌≡◌}
use Rattle.passkey_cbor_text.specs.diagnose.FloatText.{halved_text}
use Rattle.passkey_cbor_text.proofs.diagnose.float.push_halved.Given as goal

abbrev pub invariant-loop-k : goal.invariant-loop-k
invariant-loop-k l = halved_text l.n l.k ≡ halved_text l.initial.n l.initial.k

abbrev pub decreases-loop-k : goal.decreases-loop-k
decreases-loop-k l = l.k
