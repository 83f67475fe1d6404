-- What a relying party may require of an authenticator (WebAuthn Level 3), by names.
use Rattle.std.specs.Prelude.{◌≡◌, ℕ, List, [], ◌∷◌, Some, codes, refl}
use Rattle.passkey_json.specs.Coded.{Coded, named_value}
use Rattle.passkey_json.specs.contracts.requirements.AuthenticatorAttachment.{the_type as attachment_type}
use Rattle.passkey_json.specs.contracts.requirements.ResidentKeyRequirement.{the_type as resident_key_type}
use Rattle.passkey_json.specs.contracts.requirements.UserVerificationRequirement.{the_type as user_verification_type}
use Rattle.passkey_json.specs.declared.requirements.AuthenticatorAttachment.{AuthenticatorAttachment}
use Rattle.passkey_json.specs.declared.requirements.AuthenticatorAttachment.TheVariants as attachment
use Rattle.passkey_json.specs.declared.requirements.ResidentKeyRequirement.{ResidentKeyRequirement}
use Rattle.passkey_json.specs.declared.requirements.ResidentKeyRequirement.TheVariants as resident_key
use Rattle.passkey_json.specs.declared.requirements.UserVerificationRequirement.{UserVerificationRequirement}
use Rattle.passkey_json.specs.declared.requirements.UserVerificationRequirement.TheVariants as user_verification
use Rattle.passkey_webauthn.specs.Names.{Names, own_name, value_in}

-- authenticator attachment (section 5.4.5)
abbrev pub attachments : Names AuthenticatorAttachment
attachments = (codes "platform", attachment.Platform)
    ∷ (codes "cross-platform", attachment.CrossPlatform)
    ∷ []

abbrev pub attachment_name : AuthenticatorAttachment → List ℕ
attachment_name = own_name attachment_type attachments

abbrev pub attachment_value : Coded AuthenticatorAttachment
attachment_value = named_value attachment_type attachments

pub attachment_own : (x : AuthenticatorAttachment) → value_in attachments (attachment_name x) ≡ Some x
attachment_own attachment.Platform = refl
attachment_own _ = refl

-- whether a relying party wants a client-side discoverable credential (section 5.4.6)
abbrev pub resident_keys : Names ResidentKeyRequirement
resident_keys = (codes "discouraged", resident_key.Discouraged)
    ∷ (codes "preferred", resident_key.Preferred)
    ∷ (codes "required", resident_key.Required)
    ∷ []

abbrev pub resident_key_name : ResidentKeyRequirement → List ℕ
resident_key_name = own_name resident_key_type resident_keys

abbrev pub resident_key_value : Coded ResidentKeyRequirement
resident_key_value = named_value resident_key_type resident_keys

pub resident_key_own : (x : ResidentKeyRequirement) → value_in resident_keys (resident_key_name x) ≡ Some x
resident_key_own resident_key.Discouraged = refl
resident_key_own _ = refl

-- whether a relying party wants user verification (section 5.8.6)
abbrev pub user_verifications : Names UserVerificationRequirement
user_verifications = (codes "required", user_verification.Required)
    ∷ (codes "preferred", user_verification.Preferred)
    ∷ (codes "discouraged", user_verification.Discouraged)
    ∷ []

abbrev pub user_verification_name : UserVerificationRequirement → List ℕ
user_verification_name = own_name user_verification_type user_verifications

abbrev pub user_verification_value : Coded UserVerificationRequirement
user_verification_value = named_value user_verification_type user_verifications

pub user_verification_own : (x : UserVerificationRequirement) → value_in user_verifications (user_verification_name x) ≡ Some x
user_verification_own user_verification.Required = refl
user_verification_own _ = refl
