-- Credential protection policies, by their numbers.
use Rattle.std.specs.Prelude.{ℕ, List, [], ◌∷◌}
use Rattle.passkey_kinds.specs.Numbered.{code_in}
use Rattle.passkey_commands.specs.declared.credential_management.cred_protect.CredProtect.{CredProtect}
use Rattle.passkey_commands.specs.declared.credential_management.cred_protect.CredProtect.TheVariants.{UserVerificationOptional, UserVerificationOptionalWithCredentialIdList, UserVerificationRequired, Other}

abbrev pub cred_protect_byte : CredProtect → ℕ
cred_protect_byte UserVerificationOptional = 1
cred_protect_byte UserVerificationOptionalWithCredentialIdList = 2
cred_protect_byte UserVerificationRequired = 3
cred_protect_byte (Other n) = n

abbrev pub named_cred_protects : List CredProtect
named_cred_protects = UserVerificationOptional ∷ UserVerificationOptionalWithCredentialIdList
    ∷ UserVerificationRequired ∷ []

-- the value of each number
abbrev pub cred_protect_of : ℕ → CredProtect
cred_protect_of = code_in cred_protect_byte Other named_cred_protects
