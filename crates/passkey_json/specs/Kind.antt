-- Kinds: what JSON values decode to. A kind accepts some JSON values and has a value for each of
-- them.
use Rattle.std.specs.Prelude.{◌≡◌, ℕ, ◌^◌, nat_lt, ℤ, pos, negsuc, Bool, true, false, ◌||◌, IsTrue, if◌then◌else◌, codes, List, [], ◌∷◌, Option, Some, None, is_some, option_map, Result, Ok, Err}
use Rattle.std.specs.Option.{option_and_then}
use Rattle.std.specs.Str.{bytes_eq, trim}
use Rattle.passkey_bytes.specs.Encoding.{text_bytes}
use Rattle.passkey_iana.specs.Iana.{algorithm_named}
use Rattle.passkey_iana.specs.declared.algorithm.Algorithm.{Algorithm}
use Rattle.passkey_json.specs.declared.json_refusal.JsonRefusal.{JsonRefusal}
use Rattle.passkey_json.specs.declared.json_refusal.JsonRefusal.TheVariants.{Refused, OutOfMemory}
use Rattle.passkey_webauthn.specs.NumberText.{whole_64}
use Rattle.serde_json.specs.Data.{Data, null, boolean, number, string, array, Items, no_items, item}
use Rattle.serde_json.specs.Find.{as_str, as_array, as_object, as_i64}

abbrev pub Kind : Type 0 → Type 0
Kind A = Data → Option A

-- The result of decoding: the kind's value; `Refused`, if the kind has none; or `OutOfMemory`, only
-- for a JSON value that takes memory.
abbrev pub Answers : {A : Type 0} → Kind A → (Data → Bool) → Data → Result A JsonRefusal → Type 0
Answers kind takes d (Ok x) = kind d ≡ Some x
Answers kind takes d (Err Refused) = kind d ≡ None
Answers kind takes d (Err OutOfMemory) = IsTrue (takes d)

abbrev pub is_text : Data → Bool
is_text d = is_some (as_str d)

abbrev pub is_array : Data → Bool
is_array d = is_some (as_array d)

abbrev pub is_text_or_array : Data → Bool
is_text_or_array d = is_text d || is_array d

abbrev pub is_object : Data → Bool
is_object d = is_some (as_object d)

abbrev pub truth : Kind Bool
truth (boolean b) = Some b
truth _ = None

abbrev pub text : Kind (List ℕ)
text (string s) = Some s
text _ = None

-- the boolean with this name
abbrev pub truth_named : List ℕ → Option Bool
truth_named s =
    if bytes_eq s (codes "true") then Some true else (if bytes_eq s (codes "false") then Some false else None)

-- a boolean, or a text that names one
abbrev pub truth_text : Kind Bool
truth_text (boolean b) = Some b
truth_text (string s) = truth_named s
truth_text _ = None

-- a text that is one of these names
abbrev pub one_named : {T : Type 0} → (List ℕ → Option T) → Kind T
one_named named (string s) = named s
one_named named _ = None

-- ---- numbers

-- a nonnegative integer below a limit
abbrev pub natural_below : ℕ → ℤ → Option ℕ
natural_below limit (pos n) = if nat_lt n limit then Some n else None
natural_below limit (negsuc n) = None

-- an integer that fits in `i64`
abbrev pub whole : Kind ℤ
whole (number n) = as_i64 n
whole _ = None

-- such an integer, or the number in a text, truncated towards zero
abbrev pub numeral : Kind ℤ
numeral (number n) = as_i64 n
numeral (string s) = whole_64 s
numeral _ = None

abbrev pub byte : Kind ℕ
byte d = option_and_then (natural_below (2 ^ 8)) (whole d)

unfoldable pub word : Kind ℕ
word d = option_and_then (natural_below (2 ^ 32)) (numeral d)

-- an algorithm, by its COSE identifier
unfoldable pub algorithm : Kind Algorithm
algorithm d = option_and_then algorithm_named (numeral d)

-- ---- lists and options

-- null decodes to `None`
abbrev pub optional : {A : Type 0} → Kind A → Kind (Option A)
optional kind null = Some None
optional kind d = option_map Some (kind d)

-- the values of all elements, if every element has one
abbrev pub each : {A : Type 0} → Kind A → Items → Option (List A)
each kind no_items = Some []
each kind (item d ds) = option_and_then (λ x. option_map (λ xs. x ∷ xs) (each kind ds)) (kind d)

abbrev pub list : {A : Type 0} → Kind A → Kind (List A)
list kind (array ds) = each kind ds
list kind _ = None

abbrev pub kept : {A : Type 0} → Option A → List A → List A
kept (Some x) xs = x ∷ xs
kept None xs = xs

-- the values of the elements that the kind accepts, in their order
abbrev pub accepted_of : {A : Type 0} → Kind A → Items → List A
accepted_of kind no_items = []
accepted_of kind (item d ds) = kept (kind d) (accepted_of kind ds)

abbrev pub accepted : {A : Type 0} → Kind A → Kind (List A)
accepted kind (array ds) = Some (accepted_of kind ds)
accepted kind _ = None

-- the value, or `None` if the kind rejects the JSON value
abbrev pub tolerated : {A : Type 0} → Kind A → Kind (Option A)
tolerated kind d = Some (kind d)

-- a text in base64url or base64, with white space allowed around it, or an array of integers from 0
-- to 255
abbrev pub bytes : Kind (List ℕ)
bytes (string s) = text_bytes (trim s)
bytes (array ds) = each byte ds
bytes _ = None
