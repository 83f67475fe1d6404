-- What is printed of what in a JSON value is to blame, and of what is left out of it. Where a member of an object that is no
-- record has a name that isn't ASCII, nothing is said.
use Rattle.std.specs.Prelude.{ℕ, Bool, true, false, List, [], ◌∷◌, ◌++◌, Option, Some, codes}
use Rattle.std.specs.Fmt.{◌++?◌, debug_str, decimal}
use Rattle.passkey_json.specs.Wanted.{wanted_text}
use Rattle.passkey_json.specs.declared.blame.JsonBlame.{JsonBlame}
use Rattle.passkey_json.specs.declared.blame.JsonReason.{JsonReason}
use Rattle.passkey_json.specs.declared.blame.JsonReason.TheVariants as reason
use Rattle.passkey_json.specs.declared.blame.JsonStep.{JsonStep}
use Rattle.passkey_json.specs.declared.blame.JsonStep.TheVariants as step
use Rattle.passkey_json.specs.declared.dropped.DroppedValue.{DroppedValue}

-- between a step and the member after it
abbrev pub dot : Bool → List ℕ
dot true = []
dot false = codes "."

-- a step, which is the first one or not
abbrev pub step_text : Bool → JsonStep → Option (List ℕ)
step_text is_first (step.Element n) = Some (codes "[" ++ decimal n ++ codes "]")
step_text is_first (step.Named name) = Some (codes "[") ++? debug_str name ++? Some (codes "]")
step_text is_first (step.Member name) = Some (dot is_first ++ name.now)

-- steps that follow another one
abbrev pub steps_text : List JsonStep → Option (List ℕ)
steps_text [] = Some []
steps_text (s ∷ ss) = step_text false s ++? steps_text ss

abbrev pub path_text : List JsonStep → Option (List ℕ)
path_text [] = Some []
path_text (s ∷ ss) = step_text true s ++? steps_text ss

-- a path before what is said of the value there
abbrev pub path_before : List JsonStep → Option (List ℕ)
path_before [] = Some []
path_before ss = path_text ss ++? Some (codes ": ")

abbrev pub reason_text : JsonReason → List ℕ
reason_text (reason.Wanted wanted) = wanted_text wanted ++ codes " is wanted"
reason_text (reason.Missing name) = name.now ++ codes " is missing"
reason_text (reason.Repeated name) = name.now ++ codes " is present under both of its names"

abbrev pub blame_text : JsonBlame → Option (List ℕ)
blame_text b = path_before b.path.items ++? Some (reason_text b.reason)

-- where in a value that is left out the refused one is
abbrev pub path_within : List JsonStep → Option (List ℕ)
path_within [] = Some []
path_within ss = Some (codes "at ") ++? path_text ss ++? Some (codes " ")

abbrev pub dropped_text : DroppedValue → Option (List ℕ)
dropped_text d =
    path_text d.path.items ++? Some (codes ": ") ++? path_within d.blame.path.items ++? Some (reason_text d.blame.reason)
