-- Statuses of fingerprint samples, by their numbers.
use Rattle.std.specs.Prelude.{ℕ, List, [], ◌∷◌}
use Rattle.passkey_kinds.specs.Numbered.{code_in}
use Rattle.passkey_commands.specs.declared.bio_enrollment.sample_status.SampleStatus.{SampleStatus}
use Rattle.passkey_commands.specs.declared.bio_enrollment.sample_status.SampleStatus.TheVariants.{Good, TooHigh, TooLow, TooLeft, TooRight, TooFast, TooSlow, PoorQuality, TooSkewed, TooShort, MergeFailure, Exists, NoUserActivity, NoUserPresenceTransition, Other}

abbrev pub sample_status_byte : SampleStatus → ℕ
sample_status_byte Good = 0
sample_status_byte TooHigh = 1
sample_status_byte TooLow = 2
sample_status_byte TooLeft = 3
sample_status_byte TooRight = 4
sample_status_byte TooFast = 5
sample_status_byte TooSlow = 6
sample_status_byte PoorQuality = 7
sample_status_byte TooSkewed = 8
sample_status_byte TooShort = 9
sample_status_byte MergeFailure = 10
sample_status_byte Exists = 11
sample_status_byte NoUserActivity = 13
sample_status_byte NoUserPresenceTransition = 14
sample_status_byte (Other n) = n

abbrev pub named_sample_statuses : List SampleStatus
named_sample_statuses = Good ∷ TooHigh ∷ TooLow ∷ TooLeft ∷ TooRight ∷ TooFast ∷ TooSlow ∷ PoorQuality ∷ TooSkewed
    ∷ TooShort ∷ MergeFailure ∷ Exists ∷ NoUserActivity ∷ NoUserPresenceTransition ∷ []

-- the value of each number
abbrev pub sample_status_of : ℕ → SampleStatus
sample_status_of = code_in sample_status_byte Other named_sample_statuses
