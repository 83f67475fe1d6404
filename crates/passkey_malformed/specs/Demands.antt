-- What may be asked of bytes beside that a data item begins them (RFC 8949, section 3; CTAP 2.2, section 8). `rest` are the
-- bytes from a place on.
use Rattle.std.specs.Prelude.{◌≡◌, ℕ, ◌<◌, ◌≤◌, min, Bool, true, false, List, [], length, drop}
use Rattle.passkey_cbor.specs.CanonicalReading.{BeginsItem}
use Rattle.passkey_cbor.specs.LeadingItem.{max_depth}
use Rattle.passkey_malformed.specs.Breaks.{Breaks}
use Rattle.passkey_malformed.specs.Stops.{ItemLeads, Stops}
use Rattle.passkey_malformed.specs.declared.demands.Demands.{Demands}
use Rattle.passkey_malformed.specs.declared.rule.NotCanonical.{NotCanonical}
use Rattle.passkey_malformed.specs.declared.rule.Rule.{Rule}
use Rattle.passkey_malformed.specs.declared.rule.Rule.TheVariants as rule
use Rattle.passkey_malformed.specs.declared.why.Why.{Why}
use Rattle.passkey_malformed.specs.declared.why.Why.TheVariants as reason

-- the levels of arrays, maps and tags that are allowed
abbrev pub levels_in : Demands → ℕ
levels_in d = min d.levels max_depth

-- A data item of at most so many levels begins the bytes, in canonical form if the flag is true, and `rest` follow it.
abbrev pub LeadsAs : Bool → ℕ → List ℕ → List ℕ → Type 0
LeadsAs true levels bytes rest = BeginsItem levels bytes rest
LeadsAs false levels bytes rest = ItemLeads levels bytes rest

-- the rule that is broken where bytes with so many levels aren't well-formed
abbrev pub rule_of : Why → Rule
rule_of reason.TooDeep = rule.Levels
rule_of why = rule.WellFormed why

-- Where such an item belongs, the bytes go on with none: `rest` break the rule.
abbrev pub StraysAs : Bool → ℕ → List ℕ → Rule → List ℕ → Type 0
StraysAs true levels bytes r rest = Breaks levels bytes r rest
StraysAs false levels bytes r rest =
    (why : Why) × ((r ≡ rule_of why) × Stops levels reason.StrayBreak bytes why rest)

-- The data item is as is asked, and so is what follows it.
pub record Meets (d : Demands) (bytes : List ℕ) : Type 0 where
  pub rest : List ℕ
  pub leads : LeadsAs d.canonical (levels_in d) bytes rest
  pub ends : d.whole ≡ true → rest ≡ []

-- A rule is broken in the data item, or bytes follow it that mustn't.
pub data Unmet (d : Demands) (bytes : List ℕ) (r : Rule) (rest : List ℕ) : Type 0 where
  in_item : StraysAs d.canonical (levels_in d) bytes r rest → Unmet d bytes r rest
  trailing : d.whole ≡ true → LeadsAs d.canonical (levels_in d) bytes rest → 0 < length rest → r ≡ rule.NothingAfter
      → Unmet d bytes r rest

-- At the offset the bytes aren't as is asked, and the rule is broken there.
pub record IsUnmet (d : Demands) (bytes : List ℕ) (n : NotCanonical) : Type 0 where
  pub within : n.offset ≤ length bytes
  pub breaks : Unmet d bytes n.rule (drop n.offset bytes)
