-- What is said of the values that are left out of a JSON value of a kind.
use Rattle.std.specs.Prelude.{◌≡◌, List, []}
use Rattle.passkey_explain_json.specs.LeftOut.{AreLeftOut}
use Rattle.passkey_json.specs.declared.dropped.DroppedValue.{DroppedValue}
use Rattle.passkey_rewrite.specs.JsonDefinition.{JsonDefinition, json_client_data, json_object, json_record}
use Rattle.serde_json.specs.Data.{Data}

-- These are the values that a record of this table leaves out. Client data leave out none; of another object nothing is
-- said, since its definition has no shape.
abbrev pub DropsAs : JsonDefinition → Data → List DroppedValue → Type 0
DropsAs (json_record t) d vs = AreLeftOut t d vs
DropsAs (json_client_data has reads written) d vs = vs ≡ []
DropsAs (json_object kind json name) d vs = Unit {0}
