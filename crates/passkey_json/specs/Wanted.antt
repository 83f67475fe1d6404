-- The texts that say what is wanted in place of a JSON value that is refused.
use Rattle.std.specs.Prelude.{ℕ, List, codes}
use Rattle.passkey_json.specs.declared.wanted.WantedJson.{WantedJson}
use Rattle.passkey_json.specs.declared.wanted.WantedJson.TheVariants as wanted

abbrev pub wanted_text : WantedJson → List ℕ
wanted_text wanted.Boolean = codes "true or false"
wanted_text wanted.BooleanText = codes "true or false, or a text of that"
wanted_text wanted.Text = codes "a text"
wanted_text wanted.Name = codes "a name that the standard lists"
wanted_text wanted.Bytes = codes "a text in base64url"
wanted_text wanted.Integer = codes "an integer"
wanted_text wanted.Word = codes "an integer from 0 to 4294967295"
wanted_text wanted.Algorithm = codes "the identifier of a COSE algorithm"
wanted_text wanted.Array = codes "an array"
wanted_text wanted.Object = codes "an object"
wanted_text wanted.NoFloat = codes "a value without a float"
