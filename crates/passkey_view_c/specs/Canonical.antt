-- Where bytes leave CTAP2's canonical form, as C sees it.
use Rattle.std.specs.Prelude.{◌≡◌, ℕ, List}
use Rattle.passkey_malformed.specs.Breaks.{IsCanonicalWithin, IsNotCanonical}
use Rattle.passkey_malformed.specs.Rules.{rule_number}
use Rattle.passkey_malformed.specs.declared.rule.NotCanonical.{NotCanonical}

-- The bytes are canonical, or this is the rule that they break, and where.
pub data FindsBreach (levels : ℕ) (bytes : List ℕ) (old new result : ℕ) : Type 0 where
  canonical : IsCanonicalWithin levels bytes → result ≡ 0 → new ≡ old → FindsBreach levels bytes old new result
  breach : (n : NotCanonical) → IsNotCanonical levels bytes n → result ≡ rule_number n.rule → new ≡ n.offset
      → FindsBreach levels bytes old new result
