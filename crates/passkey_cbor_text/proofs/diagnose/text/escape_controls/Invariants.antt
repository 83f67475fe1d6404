use Rattle.std.proofs.Common.{◌≡◌, flat_map, string_bytes}
use Rattle.passkey_cbor_text.specs.diagnose.Quoted.{visible_text}
use Rattle.passkey_cbor_text.proofs.diagnose.text.escape_controls.Given as goal

abbrev pub invariant-loop-c : goal.invariant-loop-c
invariant-loop-c l = string_bytes l.out ≡ flat_map visible_text l.yielded
