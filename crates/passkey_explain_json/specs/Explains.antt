-- What an explanation says about a JSON value that isn't decoded as a record.
use Rattle.std.specs.Prelude.{◌≡◌, Option, Some, None, Err, is_ok, true}
use Rattle.passkey_json.specs.Along.{accepts, IsOnce, IsRefusedAt}
use Rattle.passkey_json.specs.Fault.{Gives}
use Rattle.passkey_json.specs.Members.{in_object, record_kind}
use Rattle.passkey_json.specs.Table.{PlainTable, members_in, table_shape}
use Rattle.passkey_json.specs.declared.json_fault.JsonFault.{JsonFault}
use Rattle.serde_json.specs.Data.{Data}
use Rattle.passkey_json.specs.Blame.{Blames, path_of}
use Rattle.passkey_json.specs.declared.blame.JsonBlame.{JsonBlame}
use Rattle.passkey_explain_json.specs.declared.explanation.JsonExplanation.{JsonExplanation}

-- Decoding the record from the JSON value has this fault, and this is to blame for it: the path leads to a value in the
-- JSON value, and no record is decoded from any JSON value in which it leads to that value.
pub record IsExplained {P : Type 0} (t : PlainTable P) (d : Data) (fault : JsonFault) (b : JsonBlame) : Type 0 where
  pub given : Gives ⊥ (in_object (members_in t) d) (Err fault)
  pub blamed : Blames (table_shape t) d b
  pub to_blame : IsOnce d → IsRefusedAt (accepts (record_kind (members_in t))) d (path_of b)

-- The JSON value is decoded as the record, or explained.
abbrev pub Explains : {P : Type 0} → PlainTable P → Data → Option JsonExplanation → Type 0
Explains t d None = is_ok (in_object (members_in t) d) ≡ true
Explains t d (Some e) = IsExplained t d e.fault e.blame
