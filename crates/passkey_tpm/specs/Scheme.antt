-- Schemes, each with the hash algorithm that it uses (TPM 2.0 Library, Part 2).
use Rattle.std.specs.Prelude.{ℕ, ◌<◌, ◌^◌, ◌==◌, List, ◌++◌, if◌then◌else◌, Ok, Err}
use Rattle.std.specs.Int.{w16, to_be_bytes}
use Rattle.passkey_tpm.specs.HashAlgorithm.{hash_at, IsHash}
use Rattle.passkey_tpm.specs.Parts.{Begun, ◌>>=◌, refused, u16_at}
use Rattle.passkey_tpm.specs.declared.hash_algorithm.HashAlgorithm.{HashAlgorithm}
use Rattle.passkey_tpm.specs.declared.refusal.TpmField.{TpmField}
use Rattle.passkey_tpm.specs.declared.refusal.TpmField.TheVariants as field
use Rattle.passkey_tpm.specs.declared.refusal.TpmReason.TheVariants.{Unknown}
use Rattle.passkey_tpm.specs.declared.scheme.RsaScheme.{RsaScheme}
use Rattle.passkey_tpm.specs.declared.scheme.RsaScheme.TheVariants as rsa
use Rattle.passkey_tpm.specs.declared.scheme.EccScheme.{EccScheme}
use Rattle.passkey_tpm.specs.declared.scheme.EccScheme.TheVariants as ecc
use Rattle.passkey_tpm.specs.declared.scheme.KdfScheme.{KdfScheme}
use Rattle.passkey_tpm.specs.declared.scheme.KdfScheme.TheVariants as kdf

-- the scheme, with the hash algorithm at the beginning of the bytes
abbrev pub hashed : {S : Type 0} → TpmField → (HashAlgorithm → S) → List ℕ → Begun S
hashed f make bytes = hash_at f bytes >>= λ hash. Ok (make hash.0, hash.1)

-- TPMT_RSA_SCHEME at the beginning of the bytes, after its TPM_ALG_ID
abbrev pub rsa_scheme_after : List ℕ → ℕ → List ℕ → Begun RsaScheme
rsa_scheme_after bytes id rest =
    if id == 0x0010 then Ok (rsa.Null, rest)
    else if id == 0x0014 then hashed field.SchemeHash rsa.RsaSsa rest
    else if id == 0x0015 then Ok (rsa.RsaEs, rest)
    else if id == 0x0016 then hashed field.SchemeHash rsa.RsaPss rest
    else if id == 0x0017 then hashed field.SchemeHash rsa.Oaep rest
    else Err (refused field.Scheme bytes 2 Unknown)

unfoldable pub rsa_scheme_at : List ℕ → Begun RsaScheme
rsa_scheme_at bytes = do
  id ← u16_at field.Scheme bytes
  rsa_scheme_after bytes id.0 id.1

-- TPMS_SCHEME_ECDAA: the hash algorithm, and a counter
unfoldable pub ecdaa_at : List ℕ → Begun EccScheme
ecdaa_at bytes = do
  hash ← hash_at field.SchemeHash bytes
  count ← u16_at field.SchemeCount hash.1
  Ok (ecc.Ecdaa hash.0 count.0, count.1)

-- TPMT_ECC_SCHEME at the beginning of the bytes, after its TPM_ALG_ID
abbrev pub ecc_scheme_after : List ℕ → ℕ → List ℕ → Begun EccScheme
ecc_scheme_after bytes id rest =
    if id == 0x0010 then Ok (ecc.Null, rest)
    else if id == 0x0018 then hashed field.SchemeHash ecc.Ecdsa rest
    else if id == 0x0019 then hashed field.SchemeHash ecc.Ecdh rest
    else if id == 0x001A then ecdaa_at rest
    else if id == 0x001B then hashed field.SchemeHash ecc.Sm2 rest
    else if id == 0x001C then hashed field.SchemeHash ecc.EcSchnorr rest
    else if id == 0x001D then hashed field.SchemeHash ecc.EcMqv rest
    else Err (refused field.Scheme bytes 2 Unknown)

unfoldable pub ecc_scheme_at : List ℕ → Begun EccScheme
ecc_scheme_at bytes = do
  id ← u16_at field.Scheme bytes
  ecc_scheme_after bytes id.0 id.1

-- TPMT_KDF_SCHEME at the beginning of the bytes, after its TPM_ALG_ID
abbrev pub kdf_after : List ℕ → ℕ → List ℕ → Begun KdfScheme
kdf_after bytes id rest =
    if id == 0x0010 then Ok (kdf.Null, rest)
    else if id == 0x0007 then hashed field.KdfHash kdf.Mgf1 rest
    else if id == 0x0020 then hashed field.KdfHash kdf.Kdf1Sp80056a rest
    else if id == 0x0021 then hashed field.KdfHash kdf.Kdf2 rest
    else if id == 0x0022 then hashed field.KdfHash kdf.Kdf1Sp800108 rest
    else Err (refused field.Kdf bytes 2 Unknown)

unfoldable pub kdf_at : List ℕ → Begun KdfScheme
kdf_at bytes = do
  id ← u16_at field.Kdf bytes
  kdf_after bytes id.0 id.1

-- ---- encoding

abbrev pub hash_written : HashAlgorithm → List ℕ
hash_written hash = to_be_bytes w16 hash.0

abbrev pub rsa_scheme_written : RsaScheme → List ℕ
rsa_scheme_written rsa.Null = to_be_bytes w16 0x0010
rsa_scheme_written (rsa.RsaSsa hash) = to_be_bytes w16 0x0014 ++ hash_written hash
rsa_scheme_written rsa.RsaEs = to_be_bytes w16 0x0015
rsa_scheme_written (rsa.RsaPss hash) = to_be_bytes w16 0x0016 ++ hash_written hash
rsa_scheme_written (rsa.Oaep hash) = to_be_bytes w16 0x0017 ++ hash_written hash

abbrev pub ecc_scheme_written : EccScheme → List ℕ
ecc_scheme_written ecc.Null = to_be_bytes w16 0x0010
ecc_scheme_written (ecc.Ecdsa hash) = to_be_bytes w16 0x0018 ++ hash_written hash
ecc_scheme_written (ecc.Ecdh hash) = to_be_bytes w16 0x0019 ++ hash_written hash
ecc_scheme_written (ecc.Ecdaa hash count) = to_be_bytes w16 0x001A ++ hash_written hash ++ to_be_bytes w16 count
ecc_scheme_written (ecc.Sm2 hash) = to_be_bytes w16 0x001B ++ hash_written hash
ecc_scheme_written (ecc.EcSchnorr hash) = to_be_bytes w16 0x001C ++ hash_written hash
ecc_scheme_written (ecc.EcMqv hash) = to_be_bytes w16 0x001D ++ hash_written hash

abbrev pub kdf_written : KdfScheme → List ℕ
kdf_written kdf.Null = to_be_bytes w16 0x0010
kdf_written (kdf.Mgf1 hash) = to_be_bytes w16 0x0007 ++ hash_written hash
kdf_written (kdf.Kdf1Sp80056a hash) = to_be_bytes w16 0x0020 ++ hash_written hash
kdf_written (kdf.Kdf2 hash) = to_be_bytes w16 0x0021 ++ hash_written hash
kdf_written (kdf.Kdf1Sp800108 hash) = to_be_bytes w16 0x0022 ++ hash_written hash

-- each number fits in 2 bytes
abbrev pub IsRsaScheme : RsaScheme → Type 0
IsRsaScheme rsa.Null = Unit {0}
IsRsaScheme (rsa.RsaSsa hash) = IsHash hash
IsRsaScheme rsa.RsaEs = Unit {0}
IsRsaScheme (rsa.RsaPss hash) = IsHash hash
IsRsaScheme (rsa.Oaep hash) = IsHash hash

abbrev pub IsEccScheme : EccScheme → Type 0
IsEccScheme ecc.Null = Unit {0}
IsEccScheme (ecc.Ecdsa hash) = IsHash hash
IsEccScheme (ecc.Ecdh hash) = IsHash hash
IsEccScheme (ecc.Ecdaa hash count) = IsHash hash × (count < 2 ^ 16)
IsEccScheme (ecc.Sm2 hash) = IsHash hash
IsEccScheme (ecc.EcSchnorr hash) = IsHash hash
IsEccScheme (ecc.EcMqv hash) = IsHash hash

abbrev pub IsKdf : KdfScheme → Type 0
IsKdf kdf.Null = Unit {0}
IsKdf (kdf.Mgf1 hash) = IsHash hash
IsKdf (kdf.Kdf1Sp80056a hash) = IsHash hash
IsKdf (kdf.Kdf2 hash) = IsHash hash
IsKdf (kdf.Kdf1Sp800108 hash) = IsHash hash
