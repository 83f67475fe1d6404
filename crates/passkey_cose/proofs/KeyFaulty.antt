-- If there is a fault, reading returns it.
use Rattle.std.proofs.Common.{◌≡◌, Err, false, refl}
use Rattle.passkey_cose.specs.CoseErrors.{is_memory}
use Rattle.passkey_cose.specs.KeyChecks.{ReadsPart}
use Rattle.passkey_cose.specs.declared.error.CoseError.{CoseError}

pub reads_fault : {A B : Type 0} (Takes : B → Type 0) (seen : A → B) (e : CoseError) → is_memory e ≡ false
    → ReadsPart Takes seen (Err e) (Err e)
reads_fault Takes seen e fault = rw fault refl
