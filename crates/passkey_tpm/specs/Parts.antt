-- Parts at the beginning of bytes, big-endian (TPM 2.0 Library, Part 2), and where and why bytes aren't a structure.
use Rattle.std.specs.Prelude.{ℕ, ◌<◌, ◌-◌, List, ◌++◌, length, slice_index, take, drop, nat_lt, ◌==◌, if◌then◌else◌, Result, Ok, Err}
use Rattle.std.specs.Int.{Width, w8, w16, w32, w64, from_be_bytes, to_be_bytes}
use Rattle.std.specs.Result.{result_map_both}
use Rattle.passkey_tpm.specs.declared.refusal.Stop.{Stop}
use Rattle.passkey_tpm.specs.declared.refusal.TpmField.{TpmField}
use Rattle.passkey_tpm.specs.declared.refusal.TpmField.TheVariants.{Trailing}
use Rattle.passkey_tpm.specs.declared.refusal.TpmReason.{TpmReason}
use Rattle.passkey_tpm.specs.declared.refusal.TpmReason.TheVariants.{CutOff, OtherConstant, BytesFollow}
use Rattle.passkey_tpm.specs.declared.refusal.TpmRefusal.{TpmRefusal}

-- each number is a byte
abbrev pub IsBytes : List ℕ → Type 0
IsBytes bytes = (i : ℕ) → slice_index bytes i < 256

-- a part at the beginning of the bytes, and the bytes after it; or the field that is refused, and why
abbrev pub Begun : Type 0 → Type 0
Begun X = Result (X × List ℕ) Stop

-- what contracts see of it
abbrev pub begun : {X Y : Type 0} → (X → Y) → Result X Stop → Result Y Stop
begun view r = result_map_both view (λ e. e) r

infixl 10 ◌>>=◌
abbrev pub ◌>>=◌ : {X Y : Type 0} → Result X Stop → (X → Result Y Stop) → Result Y Stop
Ok x >>= next = next x
Err e >>= next = Err e

-- the bytes begin with a field, whose first n bytes are refused
abbrev pub refused : TpmField → List ℕ → ℕ → TpmReason → Stop
refused f bytes n why = record { field = f; left = length bytes; len = n; reason = why }

-- they end before the field does
abbrev pub cut_off : TpmField → List ℕ → Stop
cut_off f bytes = refused f bytes (length bytes) CutOff

-- of so many bytes, what is refused
abbrev pub refusal_of : ℕ → Stop → TpmRefusal
refusal_of n s = record { field = s.field; offset = n - s.left; len = s.len; reason = s.reason }

-- the first n bytes, and the bytes after them
abbrev pub bytes_at : Stop → ℕ → List ℕ → Begun (List ℕ)
bytes_at stop n bytes = if nat_lt (length bytes) n then Err stop else Ok (take n bytes, drop n bytes)

-- an unsigned integer of this width, which has n bytes, and the bytes after it
abbrev pub number_at : TpmField → Width → ℕ → List ℕ → Begun ℕ
number_at f w n bytes = do
  chunk ← bytes_at (cut_off f bytes) n bytes
  Ok (from_be_bytes w chunk.0, chunk.1)

unfoldable pub u8_at : TpmField → List ℕ → Begun ℕ
u8_at f bytes = number_at f w8 1 bytes

unfoldable pub u16_at : TpmField → List ℕ → Begun ℕ
u16_at f bytes = number_at f w16 2 bytes

unfoldable pub u32_at : TpmField → List ℕ → Begun ℕ
u32_at f bytes = number_at f w32 4 bytes

unfoldable pub u64_at : TpmField → List ℕ → Begun ℕ
u64_at f bytes = number_at f w64 8 bytes

-- the bytes after a constant of 2 bytes, or of 4
unfoldable pub constant_at : TpmField → ℕ → List ℕ → Result (List ℕ) Stop
constant_at f constant bytes = do
  number ← u16_at f bytes
  if number.0 == constant then Ok number.1 else Err (refused f bytes 2 OtherConstant)

unfoldable pub wide_constant_at : TpmField → ℕ → List ℕ → Result (List ℕ) Stop
wide_constant_at f constant bytes = do
  number ← u32_at f bytes
  if number.0 == constant then Ok number.1 else Err (refused f bytes 4 OtherConstant)

-- a TPM2B: a length of 2 bytes, and so many bytes
unfoldable pub sized_at : TpmField → List ℕ → Begun (List ℕ)
sized_at f bytes = do
  len ← u16_at f bytes
  bytes_at (cut_off f bytes) len.0 len.1

abbrev pub sized_written : List ℕ → List ℕ
sized_written bytes = to_be_bytes w16 (length bytes) ++ bytes

-- bytes follow the last field
abbrev pub bytes_follow : List ℕ → Stop
bytes_follow rest = refused Trailing rest (length rest) BytesFollow

-- the value, if no bytes follow
abbrev pub whole_only : {X : Type 0} → X × List ℕ → Result X Stop
whole_only r = if nat_lt 0 (length r.1) then Err (bytes_follow r.1) else Ok r.0
