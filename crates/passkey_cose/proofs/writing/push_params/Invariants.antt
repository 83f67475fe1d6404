use Rattle.std.proofs.Common.{◌≡◌, ◌++◌, map, take}
use Rattle.passkey_cbor.specs.View.{pair_of}
use Rattle.passkey_cose.specs.KeyParams.{params_of}
use Rattle.passkey_cose.proofs.writing.push_params.Given as goal

abbrev pub invariant-loop-label : goal.invariant-loop-label
invariant-loop-label l =
    map pair_of l.pairs.items ≡ map pair_of l.fn.pairs.items ++ params_of (take l.label-index l.params)
