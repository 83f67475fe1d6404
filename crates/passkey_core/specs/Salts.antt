-- The salts of the hmac-secret extension, or its outputs for them: one of 32 bytes, or two (CTAP 2.1, section
-- 12.5).
use Rattle.std.specs.Prelude.{◌≡◌, ℕ, ◌==◌, ◌⊎◌, if◌then◌else◌, List, ◌++◌, length, drop, Option, Some, None, Result, Ok, Err}
use Rattle.passkey_core.specs.declared.salts.TryFromSliceError.{TryFromSliceError}

-- one salt, or two, one after the other
abbrev pub AreSalts : List ℕ → Type 0
AreSalts bytes = (length bytes ≡ 32) ⊎ (length bytes ≡ 64)

-- the first salt, followed by the second if there is one
abbrev pub salts_of : List ℕ → Option (List ℕ) → List ℕ
salts_of first None = first
salts_of first (Some second) = first ++ second

-- the second salt, if there are two
abbrev pub second_salt : List ℕ → Option (List ℕ)
second_salt salts = if length salts == 64 then Some (drop 32 salts) else None

-- the bytes if they are salts, and else the error
abbrev pub ReadsSalts : List ℕ → Result (List ℕ) TryFromSliceError → Type 0
ReadsSalts bytes (Ok salts) = AreSalts bytes × (salts ≡ bytes)
ReadsSalts bytes (Err _) = ¬ (AreSalts bytes)

-- the bytes if they are one salt, and else the error
abbrev pub ReadsSalt : List ℕ → Result (List ℕ) TryFromSliceError → Type 0
ReadsSalt bytes (Ok salt) = (length bytes ≡ 32) × (salt ≡ bytes)
ReadsSalt bytes (Err _) = ¬ (length bytes ≡ 32)

-- each salt has 32 bytes
abbrev pub AreWhole : List ℕ → Option (List ℕ) → Type 0
AreWhole first None = length first ≡ 32
AreWhole first (Some second) = (length first ≡ 32) × (length second ≡ 32)

-- the salts if each has 32 bytes, and else the error
abbrev pub JoinsSalts : List ℕ → Option (List ℕ) → Result (List ℕ) TryFromSliceError → Type 0
JoinsSalts first second (Ok salts) = AreWhole first second × (salts ≡ salts_of first second)
JoinsSalts first second (Err _) = ¬ (AreWhole first second)
