-- The results of a cursor's calls that build values, in terms of decoding the bytes ahead.
use Rattle.std.specs.Prelude.{◌≡◌, ℕ, ◌+◌, ◌-◌, ◌≤◌, List, [], ◌∷◌, length, map, true, false, Option, Some, Result, Ok, Err, OnOk, Vec, String, string_bytes}
use Rattle.std.specs.Global.{Global}
use Rattle.passkey_cbor.specs.Item.{Item, byte_string, text_string}
use Rattle.passkey_cbor.specs.Nodes.{nodes}
use Rattle.passkey_cbor.specs.Grows.{Grows}
use Rattle.passkey_cbor.specs.View.{item_of, pair_of}
use Rattle.passkey_cbor.specs.HeadReading.{◌>>=◌, Read}
use Rattle.passkey_cbor.specs.Reading.{string_at, item_within}
use Rattle.passkey_cbor.specs.declared.head.Head.TheVariants as head
use Rattle.passkey_cbor.specs.CursorState.{CursorState, ahead, raised, MovesForward}
use Rattle.passkey_cbor.specs.HeadCount.{Spans}
use Rattle.passkey_cbor.specs.declared.value.Value.{Value}
use Rattle.passkey_cbor.specs.declared.error.CborError.{CborError}
use Rattle.passkey_cbor.specs.declared.error.CborError.TheVariants as error

abbrev pub IsNotEmpty : {A : Type 0} → List A → Type 0
IsNotEmpty [] = ⊥
IsNotEmpty (x ∷ xs) = Unit {0}

-- the sum of the elements' sizes
abbrev pub total : {A : Type 0} → (A → ℕ) → List A → ℕ
total size [] = 0
total size (x ∷ xs) = size x + total size xs

-- What is built: which decoded content a value represents, which content takes memory, and how many data items
-- are counted for it.
pub record Making (V X : Type 0) : Type 1 where
  pub view : V → X
  pub Takes : X → Type 0
  pub size : X → ℕ

-- a data item
abbrev pub an_item : Making Value Item
an_item = record { view = item_of; Takes = Grows; size = nodes }

-- a data item that was itself counted already
abbrev pub a_counted_item : Making Value Item
a_counted_item = record { view = item_of; Takes = Grows; size = λ x. nodes x - 1 }

-- a pair of data items
abbrev pub a_pair : Making (Value × Value) (Item × Item)
a_pair = record { view = pair_of; Takes = λ m. Unit {0}; size = λ m. nodes m.0 + nodes m.1 }

-- a list of what m builds
abbrev pub each_of : {V X : Type 0} → Making V X → Making (Vec V Global) (List X)
each_of m = record { view = λ v. map m.view v.items; Takes = IsNotEmpty; size = total m.size }

-- the bytes of a string
abbrev pub some_bytes : Making (Vec ℕ Global) (List ℕ)
some_bytes = record { view = λ v. v.items; Takes = IsNotEmpty; size = λ s. 0 }

-- a text
abbrev pub a_text : Making (String Global) (List ℕ)
a_text = record { view = string_bytes; Takes = λ s. Unit {0}; size = λ s. 0 }

-- what a call built in a place that was lent to it
abbrev pub built : {V U : Type 0} → V → Result U CborError → Result V CborError
built v (Ok u) = Ok v
built v (Err e) = Err e

-- If the bytes decode to x, then x was built, and each data item in it counted; or memory ran out, which
-- happens only if x takes memory.
abbrev pub Made : {V X : Type 0} → Making V X → X → List ℕ → CursorState → CursorState → Result V CborError → Type 0
Made m x rest old new (Ok v) = (m.view v ≡ x) × (ahead new ≡ rest) × (new.nodes ≡ raised old.nodes (m.size x))
Made m x rest old new (Err error.DecodeFailed) = ⊥
Made m x rest old new (Err error.OutOfMemory) = m.Takes x × (new.nodes ≤ old.nodes + m.size x)
Made m x rest old new (Err error.OutOfRangeIntegerValue) = ⊥

-- If the bytes decode, their content is built, and at most one head is counted for each byte of it. Whatever the
-- bytes are, the cursor passed whole heads if something was built, and counted each of them. `content`: how many
-- bytes of a string's content the cursor passes before the next head
pub record Makes {V X : Type 0} (m : Making V X) (content : ℕ) (read : Read X) (old new : CursorState)
    (result : Result V CborError) : Type 0 where
  pub moves : MovesForward old new
  pub spans : OnOk result (Spans content old new)
  pub made : (x : X) (rest : List ℕ) → read ≡ Some (x, rest) → Made m x rest old new result
  pub heads : (x : X) (rest : List ℕ) → read ≡ Some (x, rest)
      → new.heads + length rest ≤ old.heads + length (ahead old)

-- ---- data items whose head is decoded already, by what the head says

abbrev pub byte_string_at : Option ℕ → List ℕ → Read Item
byte_string_at len bytes = string_at false len bytes >>= λ s. Some (byte_string s.0, s.1)

abbrev pub text_string_at : Option ℕ → List ℕ → Read Item
text_string_at len bytes = string_at true len bytes >>= λ s. Some (text_string s.0, s.1)

abbrev pub array_within : ℕ → Option ℕ → List ℕ → Read Item
array_within levels len bytes = item_within levels (head.Array len) bytes

abbrev pub map_within : ℕ → Option ℕ → List ℕ → Read Item
map_within levels len bytes = item_within levels (head.Map len) bytes

abbrev pub tagged_within : ℕ → ℕ → List ℕ → Read Item
tagged_within levels tag bytes = item_within levels (head.Tag tag) bytes
