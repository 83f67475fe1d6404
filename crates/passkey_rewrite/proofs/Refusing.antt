-- Why an input in hexadecimal has no output, by why its bytes have none.
use Rattle.std.proofs.Common.{◌≡◌, ℕ, List, Ok}
use Rattle.hex.specs.Hex.{decode_of}
use Rattle.passkey_rewrite.specs.Rewrite.{HasNoHex, IsRefusal}
use Rattle.passkey_rewrite.specs.Trimmed.{trimmed}
use Rattle.passkey_rewrite.specs.declared.fault.RunFault.{RunFault}
use Rattle.passkey_rewrite.specs.declared.fault.RunFault.TheVariants.{Refused, MessageRefused, OutOfMemory}
use Rattle.passkey_rewrite.specs.declared.kind.BytesKind.{BytesKind}
use Rattle.passkey_rewrite.specs.declared.kind.BytesKind.TheVariants as kind

-- a kind refuses bytes with its own faults alone
pub hex_refused : (k : BytesKind) (input bytes : List ℕ) (fault : RunFault) → decode_of (trimmed input) ≡ Ok bytes
    → IsRefusal k bytes fault → HasNoHex k input fault
hex_refused k input bytes (Refused refusal) decoded h = record { bytes = bytes; decoded = decoded; refused = h }
hex_refused k input bytes (MessageRefused fault) decoded h = record { bytes = bytes; decoded = decoded; refused = h }
hex_refused k input bytes OutOfMemory decoded h = tt
hex_refused kind.Cbor input bytes _ decoded h = absurd h
hex_refused kind.Auth input bytes _ decoded h = absurd h
hex_refused _ input bytes _ decoded h = absurd h
