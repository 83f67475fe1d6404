use Rattle.std.proofs.Common.{drop}
use Rattle.passkey_cbor.specs.Depth.{pairs_depth}
use Rattle.passkey_cbor.specs.Item.{pairs_of}
use Rattle.passkey_cbor.proofs.items.Deepest.{IsDeepest}
use Rattle.passkey_cose.specs.KeyParams.{params_of}
use Rattle.passkey_cose.proofs.readable.params_depth.Given as goal

abbrev pub invariant-loop-label : goal.invariant-loop-label
invariant-loop-label l = IsDeepest l.deepest (pairs_depth (pairs_of (params_of (drop l._label-index l.params))))
    (pairs_depth (pairs_of (params_of l.params)))
