-- CBOR that is written into the caller's memory.
use Rattle.std.specs.Prelude.{◌≡◌, ℕ, ◌+◌, ◌-◌, ◌^◌, ◌<◌, ◌≤◌, List, ◌++◌, length, take, drop, Bool, true, false}
use Rattle.passkey_cbor.specs.Canonical.{IsCanonical}

-- The bytes follow the first `len` of the buffer, and the rest of it is as it was.
pub record Appended (bytes out : List ℕ) (len : ℕ) (out' : List ℕ) (len' : ℕ) : Type 0 where
  pub size : len' ≡ len + length bytes
  pub room : len' ≤ length out
  pub output : out' ≡ take len out ++ (bytes ++ drop len' out)

-- The buffer is as it was, and the length is one that no buffer has.
abbrev pub IsBroken : List ℕ → List ℕ → ℕ → Bool → Type 0
IsBroken out out' len' result = (result ≡ false) × ((out' ≡ out) × (len' ≡ 2 ^ 64 - 1))

-- There is no room for the bytes after the first `len`.
pub record HasNoRoom (bytes out : List ℕ) (len : ℕ) (out' : List ℕ) (len' : ℕ) : Type 0 where
  pub short : length out < len + length bytes
  pub same : out' ≡ out
  pub broken : len' ≡ 2 ^ 64 - 1

-- The bytes are appended to the first `len` of the buffer, all of them or none.
abbrev pub Puts : List ℕ → List ℕ → ℕ → List ℕ → ℕ → Bool → Type 0
Puts bytes out len out' len' true = Appended bytes out len out' len'
Puts bytes out len out' len' false = HasNoRoom bytes out len out' len'

-- The first `len` bytes of the buffer are one data item in CTAP2's canonical form.
pub record IsWritten (out : List ℕ) (len : ℕ) : Type 0 where
  pub within : len ≤ length out
  pub canonical : IsCanonical (take len out)
