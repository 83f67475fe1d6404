use Rattle.std.proofs.Common.{◌≡◌, ◌++◌, flat_map, string_bytes}
use Rattle.passkey_cbor_text.specs.diagnose.Quoted.{char_text}
use Rattle.passkey_cbor_text.proofs.diagnose.text.push_chars.Given as goal

abbrev pub invariant-loop-c : goal.invariant-loop-c
invariant-loop-c l = string_bytes l.out ≡ string_bytes l.initial.out ++ flat_map char_text l.yielded
