use Rattle.std.proofs.Common.{◌≡◌, take, flat_map, string_bytes}
use Rattle.passkey_inspect_input.specs.Input.{symbol_text}
use Rattle.passkey_inspect_input.proofs.symbols_of.Given as goal

abbrev pub invariant-loop-byte : goal.invariant-loop-byte
invariant-loop-byte l = string_bytes l.text ≡ flat_map symbol_text (take l.byte-index l.input)
