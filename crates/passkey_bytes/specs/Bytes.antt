-- The result of decoding a text to `Bytes`.
use Rattle.std.specs.Prelude.{◌<◌, ℕ, Bool, true, false, List, length, Option, Some, None, Result, Ok, Err}
use Rattle.passkey_memory.specs.Memory.{Answers}
use Rattle.passkey_bytes.specs.declared.bytes.BytesFault.{BytesFault}
use Rattle.passkey_bytes.specs.declared.bytes.BytesFault.TheVariants.{NotBase64Encoded, OutOfMemory}
use Rattle.passkey_bytes.specs.Encoding.{text_bytes}

-- whether the error means out of memory
abbrev pub is_memory : BytesFault → Bool
is_memory OutOfMemory = true
is_memory (NotBase64Encoded _) = false

abbrev pub bytes_or_fault : Option (List ℕ) → Result (List ℕ) BytesFault
bytes_or_fault (Some bytes) = Ok bytes
bytes_or_fault None = Err (NotBase64Encoded record {})

-- the bytes that the text encodes; or that it encodes none; or out of memory, only if there is at least one
-- byte
abbrev pub ReadsText : List ℕ → Result (List ℕ) BytesFault → Type 0
ReadsText text = Answers is_memory (λ bytes. 0 < length bytes) (λ bytes. bytes) (bytes_or_fault (text_bytes text))
