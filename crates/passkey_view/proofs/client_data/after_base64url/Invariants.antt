use Rattle.std.specs.Prelude.{◌≡◌, length}
use Rattle.passkey_view.specs.ClientData.{after_base64url}
use Rattle.passkey_view.proofs.client_data.after_base64url.Given as goal

abbrev pub invariant-loop-left : goal.invariant-loop-left
invariant-loop-left l = after_base64url l.left l.rest ≡ after_base64url l.fn.bytes l.fn.text

abbrev pub decreases-loop-left : goal.decreases-loop-left
decreases-loop-left l = length l.left
