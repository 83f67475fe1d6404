-- Subcommands of authenticatorClientPIN, by their numbers (CTAP 2.1, section 6.5.5).
use Rattle.std.specs.Prelude.{ℕ, List, [], ◌∷◌}
use Rattle.passkey_kinds.specs.Numbered.{code_in}
use Rattle.passkey_commands.specs.declared.client_pin.sub_command.SubCommand.{SubCommand}
use Rattle.passkey_commands.specs.declared.client_pin.sub_command.SubCommand.TheVariants.{GetPinRetries, GetKeyAgreement, SetPin, ChangePin, GetPinToken, GetPinUvAuthTokenUsingUvWithPermissions, GetUvRetries, GetPinUvAuthTokenUsingPinWithPermissions, Other}

abbrev pub sub_command_byte : SubCommand → ℕ
sub_command_byte GetPinRetries = 1
sub_command_byte GetKeyAgreement = 2
sub_command_byte SetPin = 3
sub_command_byte ChangePin = 4
sub_command_byte GetPinToken = 5
sub_command_byte GetPinUvAuthTokenUsingUvWithPermissions = 6
sub_command_byte GetUvRetries = 7
sub_command_byte GetPinUvAuthTokenUsingPinWithPermissions = 9
sub_command_byte (Other n) = n

abbrev pub named_sub_commands : List SubCommand
named_sub_commands = GetPinRetries ∷ GetKeyAgreement ∷ SetPin ∷ ChangePin ∷ GetPinToken
    ∷ GetPinUvAuthTokenUsingUvWithPermissions ∷ GetUvRetries ∷ GetPinUvAuthTokenUsingPinWithPermissions ∷ []

-- the value of each number
abbrev pub sub_command_of : ℕ → SubCommand
sub_command_of = code_in sub_command_byte Other named_sub_commands
