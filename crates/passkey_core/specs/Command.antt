-- The commands of CTAP 2.1, section 6, that passkeys use.
use Rattle.std.specs.Prelude.{ℕ}
use Rattle.passkey_core.specs.declared.command.Ctap2Command.{Ctap2Command}
use Rattle.passkey_core.specs.declared.command.Ctap2Command.TheVariants as command

abbrev pub command_byte : Ctap2Command → ℕ
command_byte command.MakeCredential = 1
command_byte command.GetAssertion = 2
command_byte command.GetInfo = 4
