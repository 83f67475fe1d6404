-- The encodings of a head: a major type and its argument (RFC 8949, section 3).
use Rattle.std.specs.Prelude.{◌≡◌, ℕ, ◌+◌, ◌*◌, ◌^◌, ◌<◌, List, [], ◌∷◌}
use Rattle.std.specs.Int.{Width, w8, w16, w32, w64, to_be_bytes, byte_len}
use Rattle.passkey_cbor.specs.FloatParts.{FloatParts}
use Rattle.passkey_cbor.specs.Languages.{Language, Is, Either, Provided}

-- how many bytes after the initial byte hold the argument
pub data Size : Type 0 where
  one : Size
  two : Size
  four : Size
  eight : Size

-- the additional information for this size
abbrev pub information : Size → ℕ
information one = 24
information two = 25
information four = 26
information eight = 27

abbrev pub width : Size → Width
width one = w8
width two = w16
width four = w32
width eight = w64

-- the bytes can hold the arguments below this
abbrev pub limit : Size → ℕ
limit one = 2 ^ 8
limit two = 2 ^ 16
limit four = 2 ^ 32
limit eight = 2 ^ 64

-- the argument is in the initial byte, or big-endian in the bytes after it, in any size that can hold it
pub data Heads (major argument : ℕ) (bytes : List ℕ) : Type 0 where
  within : argument < 24 → bytes ≡ (32 * major + argument) ∷ [] → Heads major argument bytes
  following : (s : Size) → argument < limit s → bytes ≡ (32 * major + information s) ∷ to_be_bytes (width s) argument
      → Heads major argument bytes

-- the initial byte of a string, array or map of indefinite length
abbrev pub indefinite : ℕ → ℕ
indefinite major = 32 * major + 31

-- the "break" stop code
abbrev pub break : ℕ
break = 255

abbrev pub FloatOfSize : Size → FloatParts → Language
FloatOfSize s f =
    Provided ((f.width ≡ byte_len (width s)) × (f.bits < limit s))
    (Is ((32 * 7 + information s) ∷ to_be_bytes (width s) f.bits))

-- a half-, single- or double-precision float
abbrev pub FloatHeads : FloatParts → Language
FloatHeads f = Either (FloatOfSize two f) (Either (FloatOfSize four f) (FloatOfSize eight f))
