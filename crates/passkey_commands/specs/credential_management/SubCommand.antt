-- Subcommands of authenticatorCredentialManagement, by their numbers.
use Rattle.std.specs.Prelude.{ℕ, List, [], ◌∷◌}
use Rattle.passkey_kinds.specs.Numbered.{code_in}
use Rattle.passkey_commands.specs.declared.credential_management.sub_command.SubCommand.{SubCommand}
use Rattle.passkey_commands.specs.declared.credential_management.sub_command.SubCommand.TheVariants.{GetCredsMetadata, EnumerateRpsBegin, EnumerateRpsGetNextRp, EnumerateCredentialsBegin, EnumerateCredentialsGetNextCredential, DeleteCredential, UpdateUserInformation, Other}

abbrev pub sub_command_byte : SubCommand → ℕ
sub_command_byte GetCredsMetadata = 1
sub_command_byte EnumerateRpsBegin = 2
sub_command_byte EnumerateRpsGetNextRp = 3
sub_command_byte EnumerateCredentialsBegin = 4
sub_command_byte EnumerateCredentialsGetNextCredential = 5
sub_command_byte DeleteCredential = 6
sub_command_byte UpdateUserInformation = 7
sub_command_byte (Other n) = n

abbrev pub named_sub_commands : List SubCommand
named_sub_commands = GetCredsMetadata ∷ EnumerateRpsBegin ∷ EnumerateRpsGetNextRp ∷ EnumerateCredentialsBegin
    ∷ EnumerateCredentialsGetNextCredential ∷ DeleteCredential ∷ UpdateUserInformation ∷ []

-- the value of each number
abbrev pub sub_command_of : ℕ → SubCommand
sub_command_of = code_in sub_command_byte Other named_sub_commands
