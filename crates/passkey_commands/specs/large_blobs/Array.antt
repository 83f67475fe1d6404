-- The serialized large-blob array (CTAP 2.1, section 6.10.2).
use Rattle.std.specs.Prelude.{ℕ, List, take, drop, length, ◌-◌, nat_le, ◌&&◌, if◌then◌else◌, Option, Some, None}
use Rattle.std.specs.Str.{bytes_eq}
use Rattle.sha2.specs.Sha256.{sha256}

-- the first 16 bytes of the SHA-256 digest
abbrev pub digest_of : List ℕ → List ℕ
digest_of array = take 16 (sha256 array)

-- the array before the last 16 bytes, if these are its digest
abbrev pub array_in : List ℕ → Option (List ℕ)
array_in bytes =
    let array = take (length bytes - 16) bytes in
    if nat_le 16 (length bytes) && bytes_eq (digest_of array) (drop (length bytes - 16) bytes) then Some array else None
