-- Names of credential protection policies and of mediation.
use Rattle.std.specs.Prelude.{◌≡◌, ℕ, List, [], ◌∷◌, Some, codes, refl}
use Rattle.passkey_client.specs.contracts.names.CredentialMediationRequirement.{the_type as mediation_type}
use Rattle.passkey_client.specs.contracts.names.CredentialProtectionPolicy.{the_type as policy_type}
use Rattle.passkey_client.specs.declared.names.CredentialMediationRequirement.{CredentialMediationRequirement}
use Rattle.passkey_client.specs.declared.names.CredentialMediationRequirement.TheVariants as mediation
use Rattle.passkey_client.specs.declared.names.CredentialProtectionPolicy.{CredentialProtectionPolicy}
use Rattle.passkey_client.specs.declared.names.CredentialProtectionPolicy.TheVariants as policy
use Rattle.passkey_json.specs.Coded.{Coded, named_value}
use Rattle.passkey_webauthn.specs.Names.{Names, own_name, value_in}

-- credential protection policies (CTAP 2.1, section 12.1)
abbrev pub policies : Names CredentialProtectionPolicy
policies = (codes "userVerificationOptional", policy.UserVerificationOptional)
    ∷ (codes "userVerificationOptionalWithCredentialIDList", policy.UserVerificationOptionalWithCredentialIdList)
    ∷ (codes "userVerificationRequired", policy.UserVerificationRequired)
    ∷ []

abbrev pub policy_name : CredentialProtectionPolicy → List ℕ
policy_name = own_name policy_type policies

abbrev pub policy_value : Coded CredentialProtectionPolicy
policy_value = named_value policy_type policies

pub policy_own : (x : CredentialProtectionPolicy) → value_in policies (policy_name x) ≡ Some x
policy_own policy.UserVerificationOptional = refl
policy_own _ = refl

-- mediation (Credential Management Level 1, section 2.3.2)
abbrev pub mediations : Names CredentialMediationRequirement
mediations = (codes "silent", mediation.Silent)
    ∷ (codes "optional", mediation.Optional)
    ∷ (codes "required", mediation.Required)
    ∷ (codes "conditional", mediation.Conditional)
    ∷ []

abbrev pub mediation_name : CredentialMediationRequirement → List ℕ
mediation_name = own_name mediation_type mediations

abbrev pub mediation_value : Coded CredentialMediationRequirement
mediation_value = named_value mediation_type mediations

pub mediation_own : (x : CredentialMediationRequirement) → value_in mediations (mediation_name x) ≡ Some x
mediation_own mediation.Silent = refl
mediation_own _ = refl
