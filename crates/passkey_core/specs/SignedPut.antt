-- Adding extension outputs to authenticator data.
use Rattle.std.specs.Prelude.{◌≡◌, Option, option_map, Result, Ok, Err}
use Rattle.passkey_cbor.specs.View.{item_of}
use Rattle.passkey_memory.specs.declared.out_of_memory.OutOfMemory.{OutOfMemory}
use Rattle.passkey_cbor.specs.declared.value.Value.{Value}
use Rattle.passkey_core.specs.DataViews.{data_parts}
use Rattle.passkey_core.specs.SignedOutputs.{with_extensions}
use Rattle.passkey_core.specs.declared.authenticator_data.AuthenticatorData.{AuthenticatorData}
use Rattle.passkey_core.specs.declared.given_back.GivenBack.{GivenBack}

-- the data with the extensions; or, if memory ran out, the data unchanged
abbrev pub PutsExtensions : AuthenticatorData → Result (Option Value) OutOfMemory
    → Result AuthenticatorData (GivenBack AuthenticatorData) → Type 0
PutsExtensions before (Ok extensions) (Ok after) =
    data_parts after ≡ with_extensions (data_parts before) (option_map item_of extensions)
PutsExtensions before (Ok extensions) (Err back) = ⊥
PutsExtensions before (Err e) (Ok after) = ⊥
PutsExtensions before (Err e) (Err back) = back.value ≡ before
