-- Stored secrets of the extension hmac-secret.
use Rattle.std.specs.Prelude.{◌≡◌, ℕ, ◌<◌, ◌⊎◌, List, [], length, slice_index, EachIndex, Option, None, IfSome, codes, is_some, option_map, if◌then◌else◌}
use Rattle.std.specs.Option.{IsSomeAnd}
use Rattle.passkey_stored.specs.declared.hmac_secret.StoredHmacSecret.{StoredHmacSecret}

-- the secrets take memory
abbrev pub HoldsSecrets : StoredHmacSecret → Type 0
HoldsSecrets secret =
    (0 < length secret.cred_with_uv) ⊎ IsSomeAnd secret.cred_without_uv (λ bytes. 0 < length bytes)

abbrev pub AreZeros : List ℕ → Type 0
AreZeros bytes = EachIndex bytes (λ k. slice_index bytes k ≡ 0)

-- each byte of the secrets is zero
abbrev pub IsZeroed : StoredHmacSecret → Type 0
IsZeroed secret = AreZeros secret.cred_with_uv × IfSome secret.cred_without_uv AreZeros

-- how many bytes each of the secrets has
abbrev pub lengths : StoredHmacSecret → ℕ × Option ℕ
lengths secret = (length secret.cred_with_uv, option_map length secret.cred_without_uv)

-- the secrets after they were erased
abbrev pub erased : StoredHmacSecret
erased = record { cred_with_uv = []; cred_without_uv = None }

-- the debug text of the secrets
abbrev pub redacted : StoredHmacSecret → List ℕ
redacted secret =
    if is_some secret.cred_without_uv
    then codes "StoredHmacSecret { cred_with_uv: \"<Redacted>\", cred_without_uv: \"<Redacted>\" }"
    else codes "StoredHmacSecret { cred_with_uv: \"<Redacted>\", cred_without_uv: \"None\" }"
