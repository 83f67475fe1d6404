-- The flags that say which parts authenticator data has (WebAuthn Level 3, section 6.1).
use Rattle.std.specs.Prelude.{ℕ, ◌==◌, Bool}
use Rattle.std.specs.Int.RustNames.{bit_and}

-- AT: attested credential data
abbrev pub attested_flag : ℕ
attested_flag = 64

-- ED: extensions
abbrev pub extensions_flag : ℕ
extensions_flag = 128

-- whether every bit of `flag` is set in `flags`
abbrev pub has_flag : ℕ → ℕ → Bool
has_flag flag flags = bit_and flags flag == flag
