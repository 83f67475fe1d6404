use Rattle.std.proofs.Common.{◌≡◌, drop}
use Rattle.std.specs.Int.RustNames.{bit_or}
use Rattle.std.specs.Prelude.{fold}
use Rattle.passkey_render.proofs.data_parts.joined.Given as goal

abbrev pub invariant-loop-flag : goal.invariant-loop-flag
invariant-loop-flag l = fold bit_or l.byte (drop l.flag-index l.flags) ≡ fold bit_or 0 l.flags
