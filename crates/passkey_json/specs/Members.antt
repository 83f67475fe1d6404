-- Decoding an object member by member, in the order of the record's table.
use Rattle.std.specs.Prelude.{ℕ, List, Option, Some, None, Result, Ok, Err, option_map, option_and_then, unwrap_or, if◌then◌else◌, Bool, false, IsTrue}
use Rattle.std.specs.Option.{ok_or, option_map_or}
use Rattle.std.specs.Result.{result_ok}
use Rattle.passkey_json.specs.Fault.{Fault, no_object, missing, refused, float, repeated}
use Rattle.passkey_json.specs.Kind.{Kind, accepted, is_object}
use Rattle.serde_json.specs.Data.{Data}
use Rattle.serde_json.specs.Find.{get}
use Rattle.serde_json.specs.Written.{has_float}

-- the function's result for the value, or else the fault
infixl 10 ◌>>=◌
abbrev pub ◌>>=◌ : {A B : Type 0} → Result A Fault → (A → Result B Fault) → Result B Fault
(Ok x) >>= f = f x
(Err e) >>= f = Err e

-- the value under each name, if there is one
abbrev pub Object : Type 0
Object = List ℕ → Option Data

abbrev pub object_of : Data → Result Object Fault
object_of d = if is_object d then Ok (λ name. get name d) else Err no_object

-- what the members of an object decode to; a JSON value that isn't an object is a fault
abbrev pub in_object : {A : Type 0} → (Object → Result A Fault) → Data → Result A Fault
in_object members d = object_of d >>= members

-- a record inside another one, which is rejected for any fault
abbrev pub record_kind : {A : Type 0} → (Object → Result A Fault) → Kind A
record_kind members d = result_ok (in_object members d)

-- a member's name, and its value if the member is present
pub record Member : Type 0 where
  pub name : List ℕ
  pub value : Option Data

abbrev pub under : List ℕ → Option Data → Member
under name value = record { name = name; value = value }

abbrev pub member : List ℕ → Object → Member
member name object = under name (object name)

-- ---- when decoding may take memory

-- a value is present whose decoding may take memory
abbrev pub takes_at : {A : Type 0} → (A → Bool) → Option A → Bool
takes_at takes found = option_map_or takes found false

-- the member is present, and decoding its value may take memory
abbrev pub MemberTakes : (Data → Bool) → Member → Type 0
MemberTakes takes m = IsTrue (takes_at takes m.value)

-- an object with members whose decoding may take memory
abbrev pub takes_in : (Object → Bool) → Data → Bool
takes_in takes d = takes_at takes (result_ok (object_of d))

-- ---- ways to decode a member

abbrev pub one_of : List ℕ → Option Data → Option Data → Result Member Fault
one_of name (Some d) (Some e) = Err (repeated name)
one_of name (Some d) None = Ok (under name (Some d))
one_of name None found = Ok (under name found)

-- a member that has two names, and may be present under only one of them
abbrev pub aliased : List ℕ → List ℕ → Object → Result Member Fault
aliased name other object = one_of name (object name) (object other)

-- the fault of a rejected value: `float` if it contains a float, else `refused`
abbrev pub fault_of : List ℕ → Data → Fault
fault_of name d = if has_float d then float name else refused name

abbrev pub decoded_or_fault : {A : Type 0} → Kind A → List ℕ → Data → Result A Fault
decoded_or_fault kind name d = ok_or (kind d) (fault_of name d)

abbrev pub must : {A : Type 0} → Kind A → List ℕ → Option Data → Result A Fault
must kind name (Some d) = decoded_or_fault kind name d
must kind name None = Err (missing name)

abbrev pub may : {A : Type 0} → Kind A → A → List ℕ → Option Data → Result A Fault
may kind default name (Some d) = decoded_or_fault kind name d
may kind default name None = Ok default

-- the value, which must be present
unfoldable pub required : {A : Type 0} → Kind A → Member → Result A Fault
required kind m = must kind m.name m.value

-- the value, or the default if it is absent
unfoldable pub or_default : {A : Type 0} → A → Kind A → Member → Result A Fault
or_default default kind m = may kind default m.name m.value

-- the value, or `None` if the member is absent
unfoldable pub if_present : {A : Type 0} → Kind A → Member → Result (Option A) Fault
if_present kind m = may (λ d. option_map Some (kind d)) None m.name m.value

-- the value, or the default if it is absent or rejected
unfoldable pub tolerated : {A : Type 0} → A → Kind A → Member → Result A Fault
tolerated default kind m = Ok (unwrap_or (option_and_then kind m.value) default)

-- the value, which must be present, or the default if it is rejected
unfoldable pub required_tolerated : {A : Type 0} → A → Kind A → Member → Result A Fault
required_tolerated default kind m = must (λ d. Some (unwrap_or (kind d) default)) m.name m.value

-- the accepted elements of an array, or `None` if the member is absent or its value isn't an array
unfoldable pub accepted_list : {A : Type 0} → Kind A → Member → Result (Option (List A)) Fault
accepted_list kind m = Ok (option_and_then (accepted kind) m.value)
