use Rattle.std.proofs.Common.{◌≡◌, take}
use Rattle.passkey_cose.specs.KeyParams.{params_of}
use Rattle.passkey_cose.proofs.cloning.copy_params.Given as goal

abbrev pub invariant-loop-label : goal.invariant-loop-label
invariant-loop-label l = params_of l.copies.items ≡ params_of (take l.label-index l.params)
