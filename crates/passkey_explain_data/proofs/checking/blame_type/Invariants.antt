use Rattle.std.proofs.Common.{◌≡◌, map, drop}
use Rattle.passkey_cbor.specs.View.{pair_of}
use Rattle.passkey_explain_data.specs.KeyBlame.{type_blame}
use Rattle.passkey_explain_data.proofs.checking.blame_type.Given as goal

abbrev pub invariant-loop-i : goal.invariant-loop-i
invariant-loop-i l = type_blame l.key_type l.i (map pair_of (drop l.i l.members))
    ≡ type_blame l.key_type 0 (map pair_of l.members)
