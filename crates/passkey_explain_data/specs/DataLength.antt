-- How many bytes authenticator data take.
use Rattle.std.specs.Prelude.{◌≡◌, ◌-◌, ℕ, List, length, Ok}
use Rattle.passkey_core.specs.DataParts.{DataParts}
use Rattle.passkey_core.specs.DataReading.{Begun, ReadsDataFront}

-- Whatever is read, these bytes follow it.
abbrev pub EndsAt : {X : Type 0} → (Begun X → Type 0) → List ℕ → Type 0
EndsAt {X} reads after = (x : X) (rest : List ℕ) → reads (Ok (x, rest)) → after ≡ rest

-- If authenticator data begin the bytes, they take so many of them.
abbrev pub IsDataLength : List ℕ → ℕ → Type 0
IsDataLength bytes n =
    (d : DataParts) (last : List ℕ) → ReadsDataFront bytes (Ok (d, last)) → n ≡ length bytes - length last
