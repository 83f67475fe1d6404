-- certInfo: a TPMS_ATTEST of type TPM_ST_ATTEST_CERTIFY (TPM 2.0 Library, Part 2).
use Rattle.std.specs.Prelude.{ℕ, ◌<◌, ◌^◌, List, [], ◌∷◌, ◌++◌, length, Option, option_map, Result, Ok}
use Rattle.std.specs.Int.{w16, w32, w64, to_be_bytes}
use Rattle.std.specs.Result.{result_err, result_ok}
use Rattle.passkey_tpm.specs.Parts.{Begun, ◌>>=◌, constant_at, wide_constant_at, refusal_of, u8_at, u32_at, u64_at, sized_at, sized_written, whole_only}
use Rattle.passkey_tpm.specs.declared.cert_info.ClockInfo.{ClockInfo}
use Rattle.passkey_tpm.specs.declared.cert_info.CertInfo.{CertInfo}
use Rattle.passkey_tpm.specs.declared.refusal.Stop.{Stop}
use Rattle.passkey_tpm.specs.declared.refusal.TpmField.TheVariants as field
use Rattle.passkey_tpm.specs.declared.refusal.TpmRefusal.{TpmRefusal}

-- what contracts see of it
pub record CertInfoParts : Type 0 where
  pub qualified_signer : List ℕ
  pub extra_data : List ℕ
  pub clock_info : ClockInfo
  pub firmware_version : ℕ
  pub name : List ℕ
  pub qualified_name : List ℕ

abbrev pub cert_info_parts : CertInfo → CertInfoParts
cert_info_parts c = record {
  qualified_signer = c.qualified_signer.now;
  extra_data = c.extra_data.now;
  clock_info = c.clock_info;
  firmware_version = c.firmware_version;
  name = c.name.now;
  qualified_name = c.qualified_name.now;
}

-- TPM_GENERATED_VALUE and TPM_ST_ATTEST_CERTIFY
abbrev pub magic : ℕ
magic = 0xFF544347

abbrev pub certify : ℕ
certify = 0x8017

-- the bytes after the magic number and the type
unfoldable pub header_at : List ℕ → Result (List ℕ) Stop
header_at bytes = do
  rest ← wide_constant_at field.Magic magic bytes
  constant_at field.AttestType certify rest

unfoldable pub clock_info_at : List ℕ → Begun ClockInfo
clock_info_at bytes = do
  clock ← u64_at field.Clock bytes
  resets ← u32_at field.ResetCount clock.1
  restarts ← u32_at field.RestartCount resets.1
  safe ← u8_at field.Safe restarts.1
  Ok (record { clock = clock.0; reset_count = resets.0; restart_count = restarts.0; safe = safe.0 }, safe.1)

unfoldable pub cert_info_at : List ℕ → Begun CertInfoParts
cert_info_at bytes = do
  rest ← header_at bytes
  signer ← sized_at field.QualifiedSigner rest
  extra ← sized_at field.ExtraData signer.1
  clock ← clock_info_at extra.1
  firmware ← u64_at field.FirmwareVersion clock.1
  name ← sized_at field.Name firmware.1
  qualified ← sized_at field.QualifiedName name.1
  Ok (
    record {
      qualified_signer = signer.0;
      extra_data = extra.0;
      clock_info = clock.0;
      firmware_version = firmware.0;
      name = name.0;
      qualified_name = qualified.0;
    },
    qualified.1,
  )

-- all of the bytes; or where and why they aren't it
abbrev pub cert_info_read : List ℕ → Result CertInfoParts Stop
cert_info_read bytes = cert_info_at bytes >>= whole_only

abbrev pub cert_info_in : List ℕ → Option CertInfoParts
cert_info_in bytes = result_ok (cert_info_read bytes)

abbrev pub cert_info_refusal : List ℕ → Option TpmRefusal
cert_info_refusal bytes = option_map (refusal_of (length bytes)) (result_err (cert_info_read bytes))

-- ---- encoding

abbrev pub clock_info_written : ClockInfo → List ℕ
clock_info_written c = to_be_bytes w64 c.clock ++ to_be_bytes w32 c.reset_count ++ to_be_bytes w32 c.restart_count
    ++ (c.safe ∷ [])

abbrev pub cert_info_written : CertInfoParts → List ℕ
cert_info_written c =
    to_be_bytes w32 magic ++ to_be_bytes w16 certify ++ sized_written c.qualified_signer
    ++ sized_written c.extra_data ++ clock_info_written c.clock_info ++ to_be_bytes w64 c.firmware_version
    ++ sized_written c.name ++ sized_written c.qualified_name

-- each number fits its width, and each length 2 bytes
pub record IsClockInfo (c : ClockInfo) : Type 0 where
  pub clock : c.clock < 2 ^ 64
  pub resets : c.reset_count < 2 ^ 32
  pub restarts : c.restart_count < 2 ^ 32

pub record IsCertInfo (c : CertInfoParts) : Type 0 where
  pub signer : length c.qualified_signer < 2 ^ 16
  pub extra : length c.extra_data < 2 ^ 16
  pub clock : IsClockInfo c.clock_info
  pub firmware : c.firmware_version < 2 ^ 64
  pub name : length c.name < 2 ^ 16
  pub qualified : length c.qualified_name < 2 ^ 16
