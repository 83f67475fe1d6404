use Rattle.std.proofs.Common.{◌≡◌, take, flat_map}
use Rattle.passkey_inspect_input.specs.Input.{hex_text}
use Rattle.passkey_inspect_input.proofs.without_separators.Given as goal

abbrev pub invariant-loop-byte : goal.invariant-loop-byte
invariant-loop-byte l = l.text.items ≡ flat_map hex_text (take l.byte-index l.input)
