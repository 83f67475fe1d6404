-- What pinUvAuthParam authenticates in a request (CTAP 2.1, section 6.7).
use Rattle.std.specs.Prelude.{List, None, Option, Some, [], ℕ, ◌∷◌}
use Rattle.passkey_kinds.specs.LentItem.{IsFollowed}
use Rattle.passkey_kinds.specs.Numbered.{numbered_fields}
use Rattle.passkey_kinds.specs.Words.{table_of}
use Rattle.passkey_commands.specs.bio_enrollment.BioRequest.{bio_request}
use Rattle.passkey_commands.specs.bio_enrollment.Modality.{modality_byte}
use Rattle.passkey_commands.specs.bio_enrollment.SubCommand.{sub_command_byte}
use Rattle.passkey_commands.specs.declared.bio_enrollment.modality.Modality.{Modality}
use Rattle.passkey_commands.specs.declared.bio_enrollment.request.Request.{Request}
use Rattle.passkey_commands.specs.declared.bio_enrollment.sub_command.SubCommand.{SubCommand}

-- the numbers of the modality and the subcommand, if both are present
abbrev pub numbers_of : Option Modality → Option SubCommand → Option (List ℕ)
numbers_of (Some m) (Some s) = Some (modality_byte m ∷ sub_command_byte s ∷ [])
numbers_of m s = None

-- the numbers, followed by the encoding of the parameters in these bytes, if they are present
abbrev pub Follows : Option (List ℕ) → List ℕ → Option (List ℕ) → Type 0
Follows (Some front) request (Some bytes) = IsFollowed (table_of (numbered_fields bio_request)) 3 request front bytes
Follows None request None = Unit {0}
Follows front request bytes = ⊥

abbrev pub Authenticates : Request → List ℕ → Option (List ℕ) → Type 0
Authenticates r = Follows (numbers_of r.modality r.sub_command)
