-- Hash algorithms by their TPM_ALG_ID (TPM 2.0 Library, Part 2).
use Rattle.std.specs.Prelude.{ℕ, ◌<◌, ◌^◌, List, Ok}
use Rattle.passkey_tpm.specs.Parts.{Begun, ◌>>=◌, u16_at}
use Rattle.passkey_tpm.specs.declared.hash_algorithm.HashAlgorithm.{HashAlgorithm}
use Rattle.passkey_tpm.specs.declared.refusal.TpmField.{TpmField}

abbrev pub hash_of : ℕ → HashAlgorithm
hash_of id = record { 0 = id }

unfoldable pub hash_at : TpmField → List ℕ → Begun HashAlgorithm
hash_at f bytes = do
  id ← u16_at f bytes
  Ok (hash_of id.0, id.1)

-- the number fits in 2 bytes
abbrev pub IsHash : HashAlgorithm → Type 0
IsHash hash = hash.0 < 2 ^ 16
