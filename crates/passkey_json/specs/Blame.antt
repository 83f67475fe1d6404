-- What in a JSON value is to blame for a refusal: where, and why.
use Rattle.std.specs.Prelude.{◌≡◌, ℕ, List, [], ◌∷◌, map, Option, Some, None}
use Rattle.passkey_json.specs.Fault.{Fault, missing, repeated}
use Rattle.passkey_json.specs.Shape.{Part, Shape, leaf, list, record_of, tolerant, Step, named, element, within}
use Rattle.passkey_json.specs.declared.blame.JsonBlame.{JsonBlame}
use Rattle.passkey_json.specs.declared.blame.JsonReason.{JsonReason}
use Rattle.passkey_json.specs.declared.blame.JsonStep.{JsonStep}
use Rattle.passkey_json.specs.declared.wanted.WantedJson.{WantedJson}
use Rattle.passkey_json.specs.declared.blame.JsonReason.TheVariants as reason
use Rattle.passkey_json.specs.declared.blame.JsonStep.TheVariants as code
use Rattle.passkey_json.specs.declared.wanted.WantedJson.TheVariants as want
use Rattle.passkey_json.specs.Shape as shape
use Rattle.serde_json.specs.Data.{Data}

-- it isn't what is wanted; or it is an object that lacks a member, or has it under two names
pub data Reason : Type 0 where
  wanted : WantedJson → Reason
  lacks : List ℕ → Reason
  repeats : List ℕ → Reason

abbrev pub fault_reason : Option Fault → Reason
fault_reason (Some (missing name)) = lacks name
fault_reason (Some (repeated name)) = repeats name
fault_reason _ = wanted want.Object

-- why the value itself is to blame
abbrev pub reason_at : Shape → Data → Reason
reason_at (leaf w) d = wanted w
reason_at (list a s) d = wanted want.Array
reason_at (shape.map a s) d = wanted want.Object
reason_at (record_of fault rows) d = fault_reason (fault d)
reason_at (tolerant keeps s) d = reason_at s d

-- Each step leads to what the shape there blames within the value, and nothing within the last value is to blame.
abbrev pub IsBlamed : List Step → Reason → Shape → Data → Type 0
IsBlamed [] why s d = (within s d ≡ None) × (why ≡ reason_at s d)
IsBlamed (t ∷ ts) why s d =
    (p : Part) × ((within s d ≡ Some p) × ((p.step ≡ t) × IsBlamed ts why p.as_part.shape p.value))

-- ---- the code's types

abbrev pub step_of : JsonStep → Step
step_of (code.Member name) = named name.now
step_of (code.Named name) = named name
step_of (code.Element n) = element n

abbrev pub reason_of : JsonReason → Reason
reason_of (reason.Wanted w) = wanted w
reason_of (reason.Missing name) = lacks name.now
reason_of (reason.Repeated name) = repeats name.now

abbrev pub path_of : JsonBlame → List Step
path_of b = map step_of b.path.items

-- what the shape blames in the JSON value
abbrev pub Blames : Shape → Data → JsonBlame → Type 0
Blames s d b = IsBlamed (path_of b) (reason_of b.reason) s d

-- The part is blamed, or something within it; if there is none, the whole value, which isn't the object that is wanted.
abbrev pub BlamesPart : Option Part → JsonBlame → Type 0
BlamesPart (Some p) b =
    (ts : List Step) × ((path_of b ≡ p.step ∷ ts) × IsBlamed ts (reason_of b.reason) p.as_part.shape p.value)
BlamesPart None b = (path_of b ≡ []) × (reason_of b.reason ≡ wanted want.Object)
