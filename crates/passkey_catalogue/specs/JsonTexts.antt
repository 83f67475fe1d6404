-- What a JSON text of any kind is, and what is made of its value.
use Rattle.std.specs.Prelude.{ℕ, List, Result}
use Rattle.passkey_catalogue.specs.ClientKinds.{client_definition}
use Rattle.passkey_catalogue.specs.declared.any_json_kind.AnyJsonKind.{AnyJsonKind}
use Rattle.passkey_catalogue.specs.declared.any_json_kind.AnyJsonKind.TheVariants.{Ceremony, Client}
use Rattle.passkey_json.specs.Fault.{Fault}
use Rattle.passkey_rewrite.specs.JsonDefinition.{JsonDefinition}
use Rattle.passkey_rewrite.specs.Kinds.{json_definition}
use Rattle.passkey_rewrite.specs.RewritesJson.{rewritten_as}
use Rattle.serde_json.specs.Data.{Data}

abbrev pub any_json_definition : AnyJsonKind → JsonDefinition
any_json_definition (Ceremony k) = json_definition k
any_json_definition (Client k) = client_definition k

-- the output of each kind for a JSON value
abbrev pub any_json_rewritten : AnyJsonKind → Data → Result (List ℕ) Fault
any_json_rewritten k = rewritten_as (any_json_definition k)
