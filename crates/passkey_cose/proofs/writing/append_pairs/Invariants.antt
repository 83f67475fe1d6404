use Rattle.std.proofs.Common.{map, take}
use Rattle.passkey_cbor.specs.Encoder.{encoding}
use Rattle.passkey_cbor.specs.View.{pair_of}
use Rattle.passkey_cose.specs.KeyWritten.{Appended}
use Rattle.passkey_cose.proofs.writing.append_pairs.Given as goal

abbrev pub invariant-loop-label : goal.invariant-loop-label
invariant-loop-label l =
    Appended (map pair_of (take l.label-index l.pairs)) (encoding l.fn.encoder) (encoding l.encoder)
