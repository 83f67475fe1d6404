use Rattle.std.proofs.Common.{take}
use Rattle.passkey_cbor.specs.Encoder.{encoding}
use Rattle.passkey_cose.specs.KeyParams.{params_of}
use Rattle.passkey_cose.specs.KeyWritten.{Appended}
use Rattle.passkey_cose.proofs.writing.append_params.Given as goal

abbrev pub invariant-loop-label : goal.invariant-loop-label
invariant-loop-label l =
    Appended (params_of (take l.label-index l.params)) (encoding l.fn.encoder) (encoding l.encoder)
