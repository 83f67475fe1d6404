-- Subcommands of authenticatorBioEnrollment, by their numbers.
use Rattle.std.specs.Prelude.{ℕ, List, [], ◌∷◌}
use Rattle.passkey_kinds.specs.Numbered.{code_in}
use Rattle.passkey_commands.specs.declared.bio_enrollment.sub_command.SubCommand.{SubCommand}
use Rattle.passkey_commands.specs.declared.bio_enrollment.sub_command.SubCommand.TheVariants.{EnrollBegin, EnrollCaptureNextSample, CancelCurrentEnrollment, EnumerateEnrollments, SetFriendlyName, RemoveEnrollment, GetFingerprintSensorInfo, Other}

abbrev pub sub_command_byte : SubCommand → ℕ
sub_command_byte EnrollBegin = 1
sub_command_byte EnrollCaptureNextSample = 2
sub_command_byte CancelCurrentEnrollment = 3
sub_command_byte EnumerateEnrollments = 4
sub_command_byte SetFriendlyName = 5
sub_command_byte RemoveEnrollment = 6
sub_command_byte GetFingerprintSensorInfo = 7
sub_command_byte (Other n) = n

abbrev pub named_sub_commands : List SubCommand
named_sub_commands = EnrollBegin ∷ EnrollCaptureNextSample ∷ CancelCurrentEnrollment ∷ EnumerateEnrollments
    ∷ SetFriendlyName ∷ RemoveEnrollment ∷ GetFingerprintSensorInfo ∷ []

-- the value of each number
abbrev pub sub_command_of : ℕ → SubCommand
sub_command_of = code_in sub_command_byte Other named_sub_commands
