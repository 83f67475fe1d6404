-- The texts that say where and why bytes aren't well-formed.
use Rattle.std.specs.Prelude.{ℕ, List, ◌++◌, codes}
use Rattle.std.specs.Fmt.{decimal}
use Rattle.passkey_malformed.specs.declared.why.Malformed.{Malformed}
use Rattle.passkey_malformed.specs.declared.why.Why.{Why}
use Rattle.passkey_malformed.specs.declared.why.Why.TheVariants as why

abbrev pub why_text : Why → List ℕ
why_text why.CutOff = codes "the bytes end before the data item does"
why_text why.ReservedArgument = codes "this first byte of a data item is reserved"
why_text why.StrayBreak = codes "a break is where a data item belongs"
why_text why.BadChunk = codes "a chunk isn't a string of known length and of the same kind"
why_text why.NotUtf8 = codes "this text isn't UTF-8"
why_text why.TooDeep = codes "there are more than 256 levels of arrays, maps and tags"
why_text why.OddMap = codes "a break is where the value of a map's last key belongs"
why_text why.BadSimple = codes "a simple value below 32 has two bytes"

abbrev pub malformed_text : Malformed → List ℕ
malformed_text m = why_text m.why ++ codes " (offset " ++ decimal m.offset ++ codes ")"
