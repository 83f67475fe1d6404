-- The bytes of a `Salts`.
use Rattle.std.specs.Prelude.{◌≡◌, ℕ, List, length}
use Rattle.passkey_core.specs.declared.salts.Salts.{Salts}
use Rattle.passkey_core.specs.declared.salts.Salts.TheVariants as salts

abbrev pub salt_bytes : Salts → List ℕ
salt_bytes (salts.One bytes) = bytes
salt_bytes (salts.Two bytes) = bytes

-- one salt has 32 bytes, and two have 64
abbrev pub AreSized : Salts → Type 0
AreSized (salts.One bytes) = length bytes ≡ 32
AreSized (salts.Two bytes) = length bytes ≡ 64
