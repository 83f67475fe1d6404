use Rattle.std.proofs.Common.{◌≡◌, map, drop}
use Rattle.passkey_cbor.specs.View.{pair_of}
use Rattle.passkey_explain_data.specs.KeyBlame.{type_number}
use Rattle.passkey_explain_data.proofs.checking.type_number.Given as goal

abbrev pub invariant-loop-label : goal.invariant-loop-label
invariant-loop-label l = type_number (map pair_of (drop l.label-index l.members)) ≡ type_number (map pair_of l.members)
