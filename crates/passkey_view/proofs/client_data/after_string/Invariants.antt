use Rattle.std.specs.Prelude.{◌≡◌, ◌++◌, ◌∷◌, [], codes, length, map}
use Rattle.passkey_view.specs.ClientData.{after_each, after_string, escaped}
use Rattle.passkey_view.proofs.client_data.after_string.Given as goal

abbrev pub invariant-loop-byte : goal.invariant-loop-byte
invariant-loop-byte l =
    after_each (map escaped l.left ++ codes "\"" ∷ []) l.rest ≡ after_string l.fn.string l.fn.text

abbrev pub decreases-loop-byte : goal.decreases-loop-byte
decreases-loop-byte l = length l.left
