-- The texts that faults are displayed as.
use Rattle.std.specs.Prelude.{ℕ, List, ◌++◌, Option, Some, option_map, codes}
use Rattle.std.specs.Fmt.{debug_str}
use Rattle.passkey_json.specs.declared.json_fault.JsonFault.{JsonFault}
use Rattle.passkey_json.specs.declared.json_fault.JsonFault.TheVariants as fault

-- a word, with a member's name in parentheses as `Debug` prints it, if `Debug` prints it
abbrev pub with_name : List ℕ → List ℕ → Option (List ℕ)
with_name word name = option_map (λ quoted. word ++ codes "(" ++ quoted ++ codes ")") (debug_str name)

abbrev pub json_fault_name : JsonFault → Option (List ℕ)
json_fault_name fault.OutOfMemory = Some (codes "OutOfMemory")
json_fault_name fault.NotAnObject = Some (codes "NotAnObject")
json_fault_name (fault.Missing name) = with_name (codes "Missing") name.now
json_fault_name (fault.Refused name) = with_name (codes "Refused") name.now
json_fault_name (fault.Float name) = with_name (codes "Float") name.now
json_fault_name (fault.Repeated name) = with_name (codes "Repeated") name.now
