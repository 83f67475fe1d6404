-- The texts that say what is wanted in place of a data item that is refused.
use Rattle.std.specs.Prelude.{ℕ, List, ◌++◌, codes}
use Rattle.std.specs.Fmt.{decimal}
use Rattle.passkey_kinds.specs.declared.wanted.Wanted.{Wanted}
use Rattle.passkey_kinds.specs.declared.wanted.Wanted.TheVariants as wanted

abbrev pub wanted_text : Wanted → List ℕ
wanted_text wanted.Boolean = codes "true or false"
wanted_text (wanted.Below limit) = codes "an unsigned integer below " ++ decimal limit
wanted_text wanted.Size = codes "an integer from 1 to 18446744073709551615"
wanted_text wanted.Text = codes "a text string"
wanted_text wanted.Name = codes "a name that the standard lists"
wanted_text wanted.Bytes = codes "a byte string"
wanted_text (wanted.ByteString len) = codes "a byte string of " ++ decimal len ++ codes " bytes"
wanted_text (wanted.SizedBytes len) = decimal len ++ codes " bytes"
wanted_text wanted.Algorithm = codes "the identifier of a COSE algorithm"
wanted_text wanted.AuthenticatorData = codes "a byte string with authenticator data"
wanted_text wanted.Array = codes "an array"
wanted_text wanted.Map = codes "a map"
wanted_text wanted.NotNull = codes "any item but null"
wanted_text wanted.Any = codes "any item"
