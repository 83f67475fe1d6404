-- Decoding a head from left to right, as `item_within` does. Public clauses describe heads by their encodings
-- instead.
use Rattle.std.specs.Prelude.{ℕ, zero, suc, ◌/◌, ◌%◌, List, [], ◌∷◌, length, take, drop, nat_lt, ◌==◌, if◌then◌else◌, Option, Some, None}
use Rattle.std.specs.Int.{byte_len, from_be_bytes}
use Rattle.passkey_cbor.specs.Heads.{Size, one, two, four, eight, width}
use Rattle.passkey_cbor.specs.declared.head.Head.{Head}
use Rattle.passkey_cbor.specs.declared.head.Head.TheVariants as head

infixl 10 ◌>>=◌
abbrev pub ◌>>=◌ : {A B : Type 0} → Option A → (A → Option B) → Option B
None >>= f = None
(Some x) >>= f = f x

-- the result of decoding: a value and the bytes after it; `None` if decoding fails
abbrev pub Read : Type 0 → Type 0
Read A = Option (A × List ℕ)

-- the first n bytes; `None` if there are fewer
abbrev pub take_at : ℕ → List ℕ → Read (List ℕ)
take_at n bytes = if nat_lt (length bytes) n then None else Some (take n bytes, drop n bytes)

-- a big-endian number of this size
unfoldable pub number_at : Size → List ℕ → Read ℕ
number_at s bytes = do
  t ← take_at (byte_len (width s)) bytes
  Some (from_be_bytes (width s) t.0, t.1)

abbrev pub size_of : ℕ → Option Size
size_of info =
    if info == 24 then Some one
    else if info == 25 then Some two
    else if info == 26 then Some four
    else if info == 27 then Some eight
    else None

unfoldable pub argument_at : ℕ → List ℕ → Read ℕ
argument_at info bytes = if nat_lt info 24 then Some (info, bytes) else (size_of info >>= λ s. number_at s bytes)

-- the head with this major type, other than 7, and this argument
abbrev pub with_argument : ℕ → ℕ → Option Head
with_argument zero n = Some (head.Unsigned n)
with_argument (suc zero) n = Some (head.Negative n)
with_argument (suc (suc zero)) n = Some (head.Bytes (Some n))
with_argument (suc (suc (suc zero))) n = Some (head.Text (Some n))
with_argument (suc (suc (suc (suc zero)))) n = Some (head.Array (Some n))
with_argument (suc (suc (suc (suc (suc zero))))) n = Some (head.Map (Some n))
with_argument (suc (suc (suc (suc (suc (suc zero)))))) n = Some (head.Tag n)
with_argument (suc (suc (suc (suc (suc (suc (suc m))))))) n = None

-- the head with this major type and the additional information 31
abbrev pub without_argument : ℕ → Option Head
without_argument zero = None
without_argument (suc zero) = None
without_argument (suc (suc zero)) = Some (head.Bytes None)
without_argument (suc (suc (suc zero))) = Some (head.Text None)
without_argument (suc (suc (suc (suc zero)))) = Some (head.Array None)
without_argument (suc (suc (suc (suc (suc zero))))) = Some (head.Map None)
without_argument (suc (suc (suc (suc (suc (suc zero)))))) = None
without_argument (suc (suc (suc (suc (suc (suc (suc zero))))))) = Some head.Break
without_argument (suc (suc (suc (suc (suc (suc (suc (suc m)))))))) = None

-- in major type 7: a simple value in the byte after the initial byte, or the bits of a float
abbrev pub simple_or_float : Size → ℕ → Option Head
simple_or_float one n = if nat_lt n 32 then None else Some (head.Simple n)
simple_or_float two n = Some (head.Float (record { width = 2; bits = n }))
simple_or_float four n = Some (head.Float (record { width = 4; bits = n }))
simple_or_float eight n = Some (head.Float (record { width = 8; bits = n }))

unfoldable pub simple_at : ℕ → List ℕ → Read Head
simple_at info bytes =
    if nat_lt info 24 then Some (head.Simple info, bytes)
    else (size_of info >>= λ s. number_at s bytes >>= λ n. simple_or_float s n.0 >>= λ h. Some (h, n.1))

-- the head whose initial byte has this major type and additional information, and is followed by these bytes
unfoldable pub head_after : ℕ → ℕ → List ℕ → Read Head
head_after major info bytes =
    if info == 31 then (without_argument major >>= λ h. Some (h, bytes))
    else if major == 7 then simple_at info bytes
    else (argument_at info bytes >>= λ n. with_argument major n.0 >>= λ h. Some (h, n.1))

unfoldable pub head_at : List ℕ → Read Head
head_at [] = None
head_at (b ∷ bytes) = head_after (b / 32) (b % 32) bytes
