-- What pinUvAuthParam authenticates as a fragment of the large-blob array is written (CTAP 2.1, section 6.10.2).
use Rattle.std.specs.Prelude.{ℕ, List, [], ◌∷◌, ◌++◌, ◌^◌, Option, Some, None, nat_lt, if◌then◌else◌, replicate}
use Rattle.std.specs.Int.{to_le_bytes, w32}
use Rattle.std.specs.Option.{option_and_then}
use Rattle.sha2.specs.Sha256.{sha256}
use Rattle.passkey_commands.specs.declared.large_blobs.request.Request.{Request}

abbrev pub written_fragment : ℕ → List ℕ → List ℕ
written_fragment offset fragment =
    ((replicate 32 0xFF ++ 0x0C ∷ 0x00 ∷ []) ++ to_le_bytes w32 offset) ++ sha256 fragment

-- what is authenticated in a request that writes a fragment at an offset of at most 32 bits
abbrev pub authenticated_in : Request → Option (List ℕ)
authenticated_in r = option_and_then
    (λ fragment. if nat_lt r.offset (2 ^ 32) then Some (written_fragment r.offset fragment) else None) r.set
