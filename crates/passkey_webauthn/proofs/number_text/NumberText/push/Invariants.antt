use Rattle.std.proofs.Common.{ℕ, List, ◌++◌, take}
use Rattle.passkey_webauthn.specs.NumberState.{IsOf}
use Rattle.passkey_webauthn.proofs.number_text.NumberText.push.Given as goal

abbrev pub invariant-loop-byte : goal.invariant-loop-byte
invariant-loop-byte l = (text : List ℕ) → IsOf l.fn.self text
    → IsOf l.self-inside.state (text ++ take l.byte-index l.byte-items)
