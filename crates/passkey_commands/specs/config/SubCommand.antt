-- Subcommands of authenticatorConfig, by their numbers.
use Rattle.std.specs.Prelude.{ℕ, List, [], ◌∷◌}
use Rattle.passkey_kinds.specs.Numbered.{code_in}
use Rattle.passkey_commands.specs.declared.config.sub_command.SubCommand.{SubCommand}
use Rattle.passkey_commands.specs.declared.config.sub_command.SubCommand.TheVariants.{EnableEnterpriseAttestation, ToggleAlwaysUv, SetMinPinLength, VendorPrototype, Other}

abbrev pub sub_command_byte : SubCommand → ℕ
sub_command_byte EnableEnterpriseAttestation = 1
sub_command_byte ToggleAlwaysUv = 2
sub_command_byte SetMinPinLength = 3
sub_command_byte VendorPrototype = 255
sub_command_byte (Other n) = n

abbrev pub named_sub_commands : List SubCommand
named_sub_commands = EnableEnterpriseAttestation ∷ ToggleAlwaysUv ∷ SetMinPinLength ∷ VendorPrototype ∷ []

-- the value of each number
abbrev pub sub_command_of : ℕ → SubCommand
sub_command_of = code_in sub_command_byte Other named_sub_commands
