-- The output of the kind `check` for an input, and why there is none.
use Rattle.std.specs.Prelude.{◌≡◌, ◌⊎◌, ℕ, List, Ok, IsErr, ⊤, codes}
use Rattle.hex.specs.Hex.{decode_of}
use Rattle.passkey_cbor.specs.Canonical.{IsCanonical}
use Rattle.passkey_rewrite.specs.Trimmed.{trimmed}
use Rattle.passkey_rewrite.specs.declared.fault.RunFault.{RunFault}
use Rattle.passkey_rewrite.specs.declared.fault.RunFault.TheVariants.{BadHex, OutOfMemory}

-- `canonical` if the bytes are canonical as a whole, and `not canonical` if they aren't
abbrev pub Judges : List ℕ → List ℕ → Type 0
Judges bytes text =
    (IsCanonical bytes × (text ≡ codes "canonical")) ⊎ ((IsCanonical bytes → ⊥) × (text ≡ codes "not canonical"))

-- The output for the input, which is bytes in hexadecimal.
pub record IsChecked (input text : List ℕ) : Type 0 where
  pub bytes : List ℕ
  pub decoded : decode_of (trimmed input) ≡ Ok bytes
  pub verdict : Judges bytes text

-- why there is no output; memory may run out for any input
abbrev pub HasNoBytes : List ℕ → RunFault → Type 0
HasNoBytes input BadHex = IsErr (decode_of (trimmed input))
HasNoBytes input OutOfMemory = ⊤
HasNoBytes input _ = ⊥
