-- What is printed of explanations.
use Rattle.std.specs.Prelude.{ℕ, Bool, true, false, List, [], ◌∷◌, ◌++◌, codes, flat_map, map}
use Rattle.std.specs.Fmt.{decimal}
use Rattle.passkey_kinds.specs.Message.{fault_name}
use Rattle.passkey_kinds.specs.Wanted.{wanted_text}
use Rattle.passkey_kinds.specs.declared.fault.Fault.TheVariants as fault
use Rattle.passkey_malformed.specs.Why.{malformed_text}
use Rattle.passkey_explain.specs.Blame.{Blame, Step, element, member, value, key, blame_of, step_of}
use Rattle.passkey_explain.specs.declared.along.Extent.{Extent}
use Rattle.passkey_explain.specs.declared.blame.Reason.{Reason}
use Rattle.passkey_explain.specs.declared.blame.Reason.TheVariants as reason
use Rattle.passkey_explain.specs.declared.dropping.DroppedItem.{DroppedItem}
use Rattle.passkey_explain.specs.declared.explanation.Explanation.{Explanation}
use Rattle.passkey_explain.specs.declared.explanation.Explanation.TheVariants.{NotWellFormed, Refused}
use Rattle.passkey_explain.specs.declared.explanation.RefusedItem.{RefusedItem}

-- ---- steps

-- between a step and the member after it
abbrev pub dot : Bool → List ℕ
dot true = []
dot false = codes "."

-- a step, which is the first one or not
abbrev pub step_text : Bool → Step → List ℕ
step_text is_first (element n) = codes "[" ++ decimal n ++ codes "]"
step_text is_first (member n number name) = dot is_first ++ name
step_text is_first (value n) = codes "(value " ++ decimal n ++ codes ")"
step_text is_first (key n) = codes "(key " ++ decimal n ++ codes ")"

abbrev pub path_text : List Step → List ℕ
path_text [] = []
path_text (s ∷ ss) = step_text true s ++ flat_map (step_text false) ss

-- ---- reasons

abbrev pub reason_text : Reason → List ℕ
reason_text (reason.Wanted wanted) = wanted_text wanted ++ codes " is wanted"
reason_text (reason.Fault fault.NotAMap) = codes "a map is wanted"
reason_text (reason.Fault fault.BadKey) = codes "this key names no member"
reason_text (reason.Fault (fault.Repeated n)) = codes "member " ++ decimal n ++ codes " is repeated"
reason_text (reason.Fault (fault.Missing n)) = codes "member " ++ decimal n ++ codes " is missing"
reason_text (reason.Fault e) = fault_name e

-- a path before what is said of the item there
abbrev pub path_before : List Step → List ℕ
path_before [] = []
path_before ss = path_text ss ++ codes ": "

abbrev pub blame_text : Blame → List ℕ
blame_text b = path_before b.path ++ reason_text b.reason

-- ---- places, and what is said of them

abbrev pub extent_text : Extent → List ℕ
extent_text e = codes "(offset " ++ decimal e.offset ++ codes ", length " ++ decimal e.len ++ codes ")"

abbrev pub refused_text : RefusedItem → List ℕ
refused_text r = blame_text (blame_of r.blame) ++ codes " " ++ extent_text r.extent

-- where in a dropped item the refused one is
abbrev pub path_within : List Step → List ℕ
path_within [] = []
path_within ss = codes "at " ++ path_text ss ++ codes " "

abbrev pub dropped_text : DroppedItem → List ℕ
dropped_text d = path_text (map step_of d.path.items) ++ codes " " ++ extent_text d.extent ++ codes ": "
    ++ path_within (map step_of d.blame.path.items) ++ reason_text d.blame.reason

abbrev pub explanation_text : Explanation → List ℕ
explanation_text (NotWellFormed m) = malformed_text m
explanation_text (Refused r) = refused_text r
