-- The texts that say where bytes aren't in CTAP2's canonical form, and which of its rules they break; and the rules' numbers.
use Rattle.std.specs.Prelude.{ℕ, List, ◌++◌, codes}
use Rattle.std.specs.Fmt.{decimal}
use Rattle.passkey_malformed.specs.Why.{why_text}
use Rattle.passkey_malformed.specs.declared.rule.NotCanonical.{NotCanonical}
use Rattle.passkey_malformed.specs.declared.rule.Rule.{Rule}
use Rattle.passkey_malformed.specs.declared.rule.Rule.TheVariants as rule

abbrev pub rule_text : Rule → List ℕ
rule_text (rule.WellFormed why) = why_text why
rule_text rule.ShortestHead = codes "this number or length could be encoded in fewer bytes"
rule_text rule.DefiniteLength = codes "this string, array or map has an indefinite length"
rule_text rule.NoTag = codes "a tag is here"
rule_text rule.NoUndefined = codes "undefined is here"
rule_text rule.AscendingKeys = codes "this key of a map belongs before the key before it"
rule_text rule.DistinctKeys = codes "this key of a map is there twice"
rule_text rule.Levels = codes "this array or map is inside more others than are allowed"
rule_text rule.NothingAfter = codes "bytes follow the data item"

abbrev pub not_canonical_text : NotCanonical → List ℕ
not_canonical_text n = rule_text n.rule ++ codes " (offset " ++ decimal n.offset ++ codes ")"

-- the number of a rule in C, from 1 on
abbrev pub rule_number : Rule → ℕ
rule_number (rule.WellFormed why) = 1
rule_number rule.ShortestHead = 2
rule_number rule.DefiniteLength = 3
rule_number rule.NoTag = 4
rule_number rule.NoUndefined = 5
rule_number rule.AscendingKeys = 6
rule_number rule.DistinctKeys = 7
rule_number rule.Levels = 8
rule_number rule.NothingAfter = 9
