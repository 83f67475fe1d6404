-- Kinds of fingerprint sensors, by their numbers.
use Rattle.std.specs.Prelude.{ℕ, List, [], ◌∷◌}
use Rattle.passkey_kinds.specs.Numbered.{code_in}
use Rattle.passkey_commands.specs.declared.bio_enrollment.fingerprint_kind.FingerprintKind.{FingerprintKind}
use Rattle.passkey_commands.specs.declared.bio_enrollment.fingerprint_kind.FingerprintKind.TheVariants.{Touch, Swipe, Other}

abbrev pub fingerprint_kind_byte : FingerprintKind → ℕ
fingerprint_kind_byte Touch = 1
fingerprint_kind_byte Swipe = 2
fingerprint_kind_byte (Other n) = n

abbrev pub named_fingerprint_kinds : List FingerprintKind
named_fingerprint_kinds = Touch ∷ Swipe ∷ []

-- the value of each number
abbrev pub fingerprint_kind_of : ℕ → FingerprintKind
fingerprint_kind_of = code_in fingerprint_kind_byte Other named_fingerprint_kinds
