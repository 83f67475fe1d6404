-- pubArea: a TPMT_PUBLIC with an RSA key or a key on an elliptic curve (TPM 2.0 Library, Part 2).
use Rattle.std.specs.Prelude.{ℕ, ◌<◌, ◌≤◌, ◌^◌, ◌==◌, ◌⊎◌, List, ◌++◌, length, if◌then◌else◌, Option, option_map, Result, Ok, Err}
use Rattle.std.specs.Int.{w16, w32, to_be_bytes}
use Rattle.std.specs.Result.{result_err, result_ok}
use Rattle.passkey_tpm.specs.HashAlgorithm.{hash_at, IsHash}
use Rattle.passkey_tpm.specs.Parts.{Begun, ◌>>=◌, constant_at, refused, refusal_of, u16_at, u32_at, sized_at, sized_written, whole_only}
use Rattle.passkey_tpm.specs.Scheme.{rsa_scheme_at, ecc_scheme_at, kdf_at, hash_written, rsa_scheme_written, ecc_scheme_written, kdf_written, IsRsaScheme, IsEccScheme, IsKdf}
use Rattle.passkey_tpm.specs.declared.hash_algorithm.HashAlgorithm.{HashAlgorithm}
use Rattle.passkey_tpm.specs.declared.pub_area.PubArea.{PubArea}
use Rattle.passkey_tpm.specs.declared.public_key.Curve.{Curve}
use Rattle.passkey_tpm.specs.declared.public_key.KeyType.{KeyType}
use Rattle.passkey_tpm.specs.declared.public_key.KeyType.TheVariants as type
use Rattle.passkey_tpm.specs.declared.public_key.PublicKey.{PublicKey}
use Rattle.passkey_tpm.specs.declared.public_key.PublicKey.TheVariants as key
use Rattle.passkey_tpm.specs.declared.public_key.RsaKey.{RsaKey}
use Rattle.passkey_tpm.specs.declared.public_key.EccKey.{EccKey}
use Rattle.passkey_tpm.specs.declared.refusal.Stop.{Stop}
use Rattle.passkey_tpm.specs.declared.refusal.TpmField.TheVariants as field
use Rattle.passkey_tpm.specs.declared.refusal.TpmReason.TheVariants.{Unknown}
use Rattle.passkey_tpm.specs.declared.refusal.TpmRefusal.{TpmRefusal}
use Rattle.passkey_tpm.specs.declared.scheme.EccScheme.{EccScheme}
use Rattle.passkey_tpm.specs.declared.scheme.KdfScheme.{KdfScheme}
use Rattle.passkey_tpm.specs.declared.scheme.RsaScheme.{RsaScheme}

-- ---- what contracts see of keys

pub record RsaParts : Type 0 where
  pub scheme : RsaScheme
  pub key_bits : ℕ
  pub exponent : ℕ
  pub modulus : List ℕ

pub record EccParts : Type 0 where
  pub scheme : EccScheme
  pub curve : Curve
  pub kdf : KdfScheme
  pub x : List ℕ
  pub y : List ℕ

pub data KeyParts : Type 0 where
  rsa : RsaParts → KeyParts
  ecc : EccParts → KeyParts

pub record PubAreaParts : Type 0 where
  pub name_alg : HashAlgorithm
  pub object_attributes : ℕ
  pub auth_policy : List ℕ
  pub key : KeyParts

abbrev pub rsa_parts : RsaKey → RsaParts
rsa_parts k = record { scheme = k.scheme; key_bits = k.key_bits; exponent = k.exponent; modulus = k.modulus.now }

abbrev pub ecc_parts : EccKey → EccParts
ecc_parts k = record { scheme = k.scheme; curve = k.curve; kdf = k.kdf; x = k.x.now; y = k.y.now }

abbrev pub key_parts : PublicKey → KeyParts
key_parts (key.Rsa k) = rsa (rsa_parts k)
key_parts (key.Ecc k) = ecc (ecc_parts k)

abbrev pub pub_area_parts : PubArea → PubAreaParts
pub_area_parts a = record {
  name_alg = a.name_alg;
  object_attributes = a.object_attributes;
  auth_policy = a.auth_policy.now;
  key = key_parts a.key;
}

-- ---- curves by their TPM_ECC_CURVE (section 6.4)

abbrev pub curve_of : ℕ → Curve
curve_of id = record { 0 = id }

unfoldable pub curve_at : List ℕ → Begun Curve
curve_at bytes = do
  id ← u16_at field.CurveId bytes
  Ok (curve_of id.0, id.1)

-- ---- decoding

-- the type of a key at the beginning of the bytes, TPM_ALG_RSA or TPM_ALG_ECC, by its number
abbrev pub type_after : List ℕ → ℕ → List ℕ → Begun KeyType
type_after bytes id rest =
    if id == 0x0001 then Ok (type.Rsa, rest)
    else if id == 0x0023 then Ok (type.Ecc, rest)
    else Err (refused field.KeyType bytes 2 Unknown)

unfoldable pub type_at : List ℕ → Begun KeyType
type_at bytes = do
  id ← u16_at field.KeyType bytes
  type_after bytes id.0 id.1

-- TPMS_RSA_PARMS and TPM2B_PUBLIC_KEY_RSA
unfoldable pub rsa_at : List ℕ → Begun RsaParts
rsa_at bytes = do
  rest ← constant_at field.Symmetric 0x0010 bytes
  scheme ← rsa_scheme_at rest
  bits ← u16_at field.KeyBits scheme.1
  exponent ← u32_at field.Exponent bits.1
  modulus ← sized_at field.Modulus exponent.1
  Ok (record { scheme = scheme.0; key_bits = bits.0; exponent = exponent.0; modulus = modulus.0 }, modulus.1)

-- TPMS_ECC_PARMS and TPMS_ECC_POINT
unfoldable pub ecc_at : List ℕ → Begun EccParts
ecc_at bytes = do
  rest ← constant_at field.Symmetric 0x0010 bytes
  scheme ← ecc_scheme_at rest
  curve ← curve_at scheme.1
  kdf ← kdf_at curve.1
  x ← sized_at field.X kdf.1
  y ← sized_at field.Y x.1
  Ok (record { scheme = scheme.0; curve = curve.0; kdf = kdf.0; x = x.0; y = y.0 }, y.1)

-- the key of a type
abbrev pub key_at : KeyType → List ℕ → Begun KeyParts
key_at type.Rsa bytes = rsa_at bytes >>= λ k. Ok (rsa k.0, k.1)
key_at type.Ecc bytes = ecc_at bytes >>= λ k. Ok (ecc k.0, k.1)

unfoldable pub pub_area_at : List ℕ → Begun PubAreaParts
pub_area_at bytes = do
  kind ← type_at bytes
  hash ← hash_at field.NameAlg kind.1
  attributes ← u32_at field.ObjectAttributes hash.1
  policy ← sized_at field.AuthPolicy attributes.1
  key ← key_at kind.0 policy.1
  Ok (record { name_alg = hash.0; object_attributes = attributes.0; auth_policy = policy.0; key = key.0 }, key.1)

-- all of the bytes; or where and why they aren't it
abbrev pub pub_area_read : List ℕ → Result PubAreaParts Stop
pub_area_read bytes = pub_area_at bytes >>= whole_only

abbrev pub pub_area_in : List ℕ → Option PubAreaParts
pub_area_in bytes = result_ok (pub_area_read bytes)

abbrev pub pub_area_refusal : List ℕ → Option TpmRefusal
pub_area_refusal bytes = option_map (refusal_of (length bytes)) (result_err (pub_area_read bytes))

-- ---- encoding

abbrev pub null_written : List ℕ
null_written = to_be_bytes w16 0x0010

abbrev pub rsa_written : RsaParts → List ℕ
rsa_written k =
    null_written ++ rsa_scheme_written k.scheme ++ to_be_bytes w16 k.key_bits ++ to_be_bytes w32 k.exponent
    ++ sized_written k.modulus

abbrev pub ecc_written : EccParts → List ℕ
ecc_written k =
    null_written ++ ecc_scheme_written k.scheme ++ to_be_bytes w16 k.curve.0 ++ kdf_written k.kdf
    ++ sized_written k.x ++ sized_written k.y

abbrev pub key_type : KeyParts → ℕ
key_type (rsa k) = 0x0001
key_type (ecc k) = 0x0023

abbrev pub key_written : KeyParts → List ℕ
key_written (rsa k) = rsa_written k
key_written (ecc k) = ecc_written k

abbrev pub pub_area_written : PubAreaParts → List ℕ
pub_area_written a =
    to_be_bytes w16 (key_type a.key) ++ hash_written a.name_alg ++ to_be_bytes w32 a.object_attributes
    ++ sized_written a.auth_policy ++ key_written a.key

-- each number fits its width, and each length 2 bytes
pub record IsRsa (k : RsaParts) : Type 0 where
  pub scheme : IsRsaScheme k.scheme
  pub bits : k.key_bits < 2 ^ 16
  pub exponent : k.exponent < 2 ^ 32
  pub modulus : length k.modulus < 2 ^ 16

pub record IsEcc (k : EccParts) : Type 0 where
  pub scheme : IsEccScheme k.scheme
  pub curve : k.curve.0 < 2 ^ 16
  pub kdf : IsKdf k.kdf
  pub x : length k.x < 2 ^ 16
  pub y : length k.y < 2 ^ 16

abbrev pub IsKey : KeyParts → Type 0
IsKey (rsa k) = IsRsa k
IsKey (ecc k) = IsEcc k

pub record IsPubArea (a : PubAreaParts) : Type 0 where
  pub name_alg : IsHash a.name_alg
  pub attributes : a.object_attributes < 2 ^ 32
  pub policy : length a.auth_policy < 2 ^ 16
  pub key : IsKey a.key

-- a byte string of the key is longer than its length's 2 bytes hold
abbrev pub IsLongKey : KeyParts → Type 0
IsLongKey (rsa k) = 2 ^ 16 ≤ length k.modulus
IsLongKey (ecc k) = (2 ^ 16 ≤ length k.x) ⊎ (2 ^ 16 ≤ length k.y)
