use Rattle.std.proofs.Common.{◌≡◌, ◌≤◌, ◌-◌, string_bytes}
use Rattle.passkey_inspect.specs.Kinds.{lines_to}
use Rattle.passkey_inspect.proofs.kinds.all_kinds_text.Given as goal

abbrev pub invariant-loop-place : goal.invariant-loop-place
invariant-loop-place l = (string_bytes l.text ≡ lines_to l.place) × (l.place ≤ 255)

abbrev pub decreases-loop-place : goal.decreases-loop-place
decreases-loop-place l = 255 - l.place
