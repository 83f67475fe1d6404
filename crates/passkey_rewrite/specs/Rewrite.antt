-- The output of decoding an input as a kind and encoding the result, and why there is none.
use Rattle.std.specs.Prelude.{◌≡◌, ℕ, List, Ok, IsErr, ⊤}
use Rattle.hex.specs.Hex.{decode_of, encode_lower}
use Rattle.passkey_rewrite.specs.Kinds.{bytes_definition}
use Rattle.passkey_rewrite.specs.RewritesJson.{RewritesJson, IsJsonRefusal, json_rewritten}
use Rattle.passkey_rewrite.specs.Checking.{IsChecked, HasNoBytes}
use Rattle.passkey_rewrite.specs.Rewriting.{IsRefusalAs, RewritesAs}
use Rattle.passkey_rewrite.specs.Trimmed.{trimmed}
use Rattle.passkey_rewrite.specs.declared.kind.BytesKind.{BytesKind}
use Rattle.passkey_rewrite.specs.declared.kind.Kind.{Kind}
use Rattle.passkey_rewrite.specs.declared.kind.Kind.TheVariants.{Bytes, Json, Check}
use Rattle.passkey_rewrite.specs.declared.fault.RunFault.{RunFault}
use Rattle.passkey_rewrite.specs.declared.fault.RunFault.TheVariants.{Refused, MessageRefused, BadHex, UnknownKind, OutOfMemory}

-- what decoding these bytes as a kind and encoding the result returns
abbrev pub Rewrites : BytesKind → List ℕ → List ℕ → Type 0
Rewrites kind = RewritesAs {O = Unit {0}} (λ o bytes encoding. ⊥) (bytes_definition kind)

-- why these bytes aren't decoded and encoded as a kind; memory may run out for any bytes
abbrev pub IsRefusal : BytesKind → List ℕ → RunFault → Type 0
IsRefusal kind = IsRefusalAs {O = Unit {0}} (λ o bytes fault. fault ≡ UnknownKind) (bytes_definition kind)

-- The output for an input in hexadecimal: the kind's encoding, in lower-case hexadecimal.
pub record RewritesHex (kind : BytesKind) (input text : List ℕ) : Type 0 where
  pub bytes : List ℕ
  pub decoded : decode_of (trimmed input) ≡ Ok bytes
  pub encoding : List ℕ
  pub rewritten : Rewrites kind bytes encoding
  pub shown : text ≡ encode_lower encoding

-- The input is in hexadecimal, and the kind rejects its bytes.
pub record IsRefused (kind : BytesKind) (input : List ℕ) (fault : RunFault) : Type 0 where
  pub bytes : List ℕ
  pub decoded : decode_of (trimmed input) ≡ Ok bytes
  pub refused : IsRefusal kind bytes fault

-- why there is no output for an input of bytes; memory may run out for any input
abbrev pub HasNoHex : BytesKind → List ℕ → RunFault → Type 0
HasNoHex kind input (Refused refusal) = IsRefused kind input (Refused refusal)
HasNoHex kind input (MessageRefused fault) = IsRefused kind input (MessageRefused fault)
HasNoHex kind input BadHex = IsErr (decode_of (trimmed input))
HasNoHex kind input OutOfMemory = ⊤
HasNoHex kind input _ = ⊥

-- the output of a kind for an input
abbrev pub Shown : Kind → List ℕ → List ℕ → Type 0
Shown (Bytes kind) input text = RewritesHex kind input text
Shown (Json kind) input text = RewritesJson (json_rewritten kind) input text
Shown Check input text = IsChecked input text

-- why a kind has no output for an input
abbrev pub HasNoOutput : Kind → List ℕ → RunFault → Type 0
HasNoOutput (Bytes kind) input fault = HasNoHex kind input fault
HasNoOutput (Json kind) input fault = IsJsonRefusal (json_rewritten kind) input fault
HasNoOutput Check input fault = HasNoBytes input fault
