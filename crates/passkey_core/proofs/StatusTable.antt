-- No two named statuses have the same byte: proofs that the clauses on Ctap2Error cite.
use Rattle.std.specs.Cmp.{unsigned_Decides}
use Rattle.std.proofs.Common.{◌≡◌, ◌∙◌, ℕ, nat_eq, Some, refl, sym, ap}
use Rattle.passkey_iana.specs.TableLaws.{numbered_has}
use Rattle.passkey_core.specs.declared.status.ctap2_error.Ctap2Error.{Ctap2Error}
use Rattle.passkey_core.specs.declared.status.ctap2_error.Ctap2Error.TheVariants as error
use Rattle.passkey_core.specs.Statuses.{ctap2_error, ctap2_error_byte, ctap2_errors}

pub ctap2_error_own : (e : Ctap2Error) → ctap2_error (ctap2_error_byte e) ≡ Some e
ctap2_error_own error.Ok = refl
ctap2_error_own _ = refl

pub ctap2_error_has : (byte : ℕ) (e : Ctap2Error) → ctap2_error byte ≡ Some e → ctap2_error_byte e ≡ byte
ctap2_error_has = numbered_has nat_eq unsigned_Decides ctap2_error_byte ctap2_errors

pub ctap2_errors_apart : (a b : Ctap2Error) → ctap2_error_byte a ≡ ctap2_error_byte b → a ≡ b
ctap2_errors_apart a b e =
    let found : Some a ≡ Some b = sym (ctap2_error_own a) ∙ ap ctap2_error e ∙ ctap2_error_own b in
    cc
