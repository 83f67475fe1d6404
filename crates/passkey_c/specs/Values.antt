-- What calls that write inputs as values of JSON, and encode such values, return, and leave in the caller's memory.
use Rattle.std.specs.Prelude.{◌≡◌, ◌==◌, ◌<◌, ◌≤◌, ◌⊎◌, ◌++◌, ℕ, false, List, length, take, drop}
use Rattle.std.specs.Prelude.{Option, None, Some, option_map, Result, Ok, Err, string_bytes}
use Rattle.passkey_catalogue.specs.Catalogue.{definition}
use Rattle.passkey_catalogue.specs.Rewriting.{IsRefusal}
use Rattle.passkey_catalogue.specs.Values.{EncodesValues, RefusesText, ShowsValues, StandsFor, values_of}
use Rattle.passkey_catalogue.specs.declared.form.Form.{Form}
use Rattle.passkey_catalogue.specs.declared.json_values.ValuesFault.{ValuesFault}
use Rattle.passkey_catalogue.specs.declared.json_values.ValuesFault.TheVariants as values_fault
use Rattle.passkey_catalogue.specs.declared.kind.Kind.{Kind}
use Rattle.passkey_explain.specs.Blame.{blame_of}
use Rattle.passkey_explain.specs.Explains.{Explains}
use Rattle.passkey_explain.specs.Texts.{blame_text}
use Rattle.passkey_explain.specs.declared.explanation.Explanation.{Explanation}
use Rattle.passkey_explain.specs.declared.explanation.Explanation.TheVariants.{Refused}
use Rattle.passkey_malformed.specs.declared.demands.Demands.{Demands}
use Rattle.passkey_rewrite.specs.Definition.{Definition, authenticator, item, message, other}
use Rattle.passkey_rewrite.specs.declared.fault.RunFault.{RunFault}
use Rattle.passkey_c.specs.Asked.{WritesAsked, is_item}
use Rattle.passkey_c.specs.Statuses.{status_of, values_status}
use Rattle.passkey_c.specs.Writing.{Outputs, IsUnknown}
use Rattle.passkey_c.specs.declared.encode.Unencoded.{Unencoded}

-- ---- the values of an input

abbrev pub WritesValues : Option Kind → Option Demands → List ℕ → Outputs → Outputs → ℕ → Type 0
WritesValues (Some kind) demands input old new status =
    let d = definition kind in
    WritesAsked (ShowsValues d input) (IsRefusal d input) demands (is_item d) input old new status
WritesValues None demands input old new status = IsUnknown old new status

-- ---- what values are encoded as

-- What the caller's memory holds: the encoding, its length, the text about what is refused, and the text's length.
pub record Encoding : Type 0 where
  pub out : List ℕ
  pub len : ℕ
  pub why : List ℕ
  pub why_size : ℕ

-- the memory with as much of the text, if there is one, as there is room for, and the length of all of it
abbrev pub with_text : Option (List ℕ) → Encoding → Encoding
with_text None m = m
with_text (Some text) m =
    record m { why = take (length m.why) text ++ drop (length text) m.why; why_size = length text }

-- Status 0 with the encoding, status 1 with its length, or the status of a fault, with a text about it if there is one;
-- nothing else is written.
pub data Encoded (IsWanted : List ℕ → Type 0) (IsFault : ℕ → Option (List ℕ) → Type 0) (old new : Encoding) (status : ℕ)
    : Type 0 where
  fits : status ≡ 0 → (bytes : List ℕ) → IsWanted bytes → length bytes ≤ length old.out
      → new ≡ record old { out = bytes ++ drop (length bytes) old.out; len = length bytes }
      → Encoded IsWanted IsFault old new status
  long : status ≡ 1 → (bytes : List ℕ) → IsWanted bytes → length old.out < length bytes
      → new ≡ record old { len = length bytes } → Encoded IsWanted IsFault old new status
  refused : (text : Option (List ℕ)) → IsFault status text → new ≡ with_text text old
      → Encoded IsWanted IsFault old new status

-- Whether the bytes fit into the output, and what is there and in the length afterwards.
abbrev pub IsPut : List ℕ → List ℕ → List ℕ → ℕ → ℕ → Type 0
IsPut bytes old new len status = (len ≡ length bytes)
    × (((status ≡ 0) × (length bytes ≤ length old) × (new ≡ bytes ++ drop (length bytes) old))
    ⊎ ((status ≡ 1) × (length old < length bytes) × (new ≡ old)))

-- what is written of a result
abbrev pub TellsEncoding : {A : Type 0} → (A → List ℕ) → Result A Unencoded → Encoding → Encoding → ℕ → Type 0
TellsEncoding view (Ok v) old new status = Encoded (λ b. b ≡ view v) (λ s t. ⊥) old new status
TellsEncoding view (Err u) old new status =
    Encoded (λ b. ⊥) (λ s t. (s ≡ u.status) × (t ≡ option_map string_bytes u.text)) old new status

-- ---- why values aren't encoded

-- what is said of values that are no data item: where and why
abbrev pub said_of : ValuesFault → Option (List ℕ)
said_of (values_fault.NoItem e told) = Some (string_bytes told)
said_of _ = None

-- what is said of a message's data item: which item, or map key, in it is refused and what is wanted there
abbrev pub blame_told : Option Explanation → Option (List ℕ)
blame_told (Some (Refused e)) = Some (blame_text (blame_of e.blame))
blame_told _ = None

-- what is said of the encoding of a data item that is refused: of a message, what its table refuses
abbrev pub Blames : Definition Form → List ℕ → Option (List ℕ) → Type 0
Blames item bytes told = told ≡ None
Blames authenticator bytes told = told ≡ None
Blames (message t tree) bytes told = (e : Option Explanation) × (Explains t bytes e × (told ≡ blame_told e))
Blames (other f) bytes told = told ≡ None

-- Memory ran out; or the text stands for no input; or the kind refuses the input, with this fault.
pub data IsUnencoded (d : Definition Form) (text : List ℕ) (status : ℕ) (told : Option (List ℕ)) : Type 0 where
  exhausted : status ≡ 2 → told ≡ None → IsUnencoded d text status told
  unread : (fault : ValuesFault) → RefusesText (values_of d) text fault → status ≡ values_status fault → told ≡ said_of fault
      → IsUnencoded d text status told
  rejected : (input : List ℕ) → StandsFor (values_of d) text input → (fault : RunFault) → IsRefusal d input fault
      → status ≡ status_of fault → (status == 2) ≡ false → Blames d input told
      → IsUnencoded d text status told

-- what the kind's refusal of an encoding comes to: memory ran out, or the fault's status, and what is said of the encoding
abbrev pub IsRejection : Definition Form → List ℕ → RunFault → ℕ → Option (List ℕ) → Type 0
IsRejection d bytes fault status told = ((status ≡ 2) × (told ≡ None))
    ⊎ ((status ≡ status_of fault) × ((status == 2) ≡ false) × Blames d bytes told)

abbrev pub IsUnknownKind : Encoding → Encoding → ℕ → Type 0
IsUnknownKind old new status = (status ≡ 3) × (new ≡ old)

abbrev pub EncodesAs : Option Kind → List ℕ → Encoding → Encoding → ℕ → Type 0
EncodesAs (Some kind) text old new status =
    let d = definition kind in Encoded (EncodesValues d text) (IsUnencoded d text) old new status
EncodesAs None text old new status = IsUnknownKind old new status
