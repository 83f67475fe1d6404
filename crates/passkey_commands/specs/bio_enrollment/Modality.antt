-- Modalities of biometric enrollment, by their numbers.
use Rattle.std.specs.Prelude.{ℕ, List, [], ◌∷◌}
use Rattle.passkey_kinds.specs.Numbered.{code_in}
use Rattle.passkey_commands.specs.declared.bio_enrollment.modality.Modality.{Modality}
use Rattle.passkey_commands.specs.declared.bio_enrollment.modality.Modality.TheVariants.{Fingerprint, Other}

abbrev pub modality_byte : Modality → ℕ
modality_byte Fingerprint = 1
modality_byte (Other n) = n

abbrev pub named_modalities : List Modality
named_modalities = Fingerprint ∷ []

-- the value of each number
abbrev pub modality_of : ℕ → Modality
modality_of = code_in modality_byte Other named_modalities
