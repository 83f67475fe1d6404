-- Commands to an authenticator, by their bytes (CTAP 2.1, section 6).
use Rattle.std.specs.Prelude.{ℕ, List, [], ◌∷◌}
use Rattle.passkey_core.specs.Command.{command_byte as ctap2_byte}
use Rattle.passkey_core.specs.declared.command.Ctap2Command.TheVariants as ctap2
use Rattle.passkey_kinds.specs.Numbered.{code_in}
use Rattle.passkey_commands.specs.declared.framing.command.Command.{Command}
use Rattle.passkey_commands.specs.declared.framing.command.Command.TheVariants.{MakeCredential, GetAssertion, GetInfo, ClientPin, Reset, GetNextAssertion, BioEnrollment, CredentialManagement, Selection, LargeBlobs, Config, PrototypeBioEnrollment, PrototypeCredentialManagement, Other}

abbrev pub command_byte : Command → ℕ
command_byte MakeCredential = ctap2_byte ctap2.MakeCredential
command_byte GetAssertion = ctap2_byte ctap2.GetAssertion
command_byte GetInfo = ctap2_byte ctap2.GetInfo
command_byte ClientPin = 0x06
command_byte Reset = 0x07
command_byte GetNextAssertion = 0x08
command_byte BioEnrollment = 0x09
command_byte CredentialManagement = 0x0A
command_byte Selection = 0x0B
command_byte LargeBlobs = 0x0C
command_byte Config = 0x0D
command_byte PrototypeBioEnrollment = 0x40
command_byte PrototypeCredentialManagement = 0x41
command_byte (Other n) = n

abbrev pub named_commands : List Command
named_commands = MakeCredential ∷ GetAssertion ∷ GetInfo ∷ ClientPin ∷ Reset ∷ GetNextAssertion ∷ BioEnrollment
    ∷ CredentialManagement ∷ Selection ∷ LargeBlobs ∷ Config ∷ PrototypeBioEnrollment
    ∷ PrototypeCredentialManagement ∷ []

-- the value of each number
abbrev pub command_of : ℕ → Command
command_of = code_in command_byte Other named_commands
