use Rattle.std.proofs.Common.{ℕ, ◌-◌, length}
use Rattle.passkey_cbor.specs.EncodedAt.{PairsAreEncodedAt}
use Rattle.passkey_view.specs.Member.{Members}
use Rattle.passkey_view.proofs.Walking.{LooksOn}
use Rattle.passkey_view.proofs.member.value_ahead.Given as goal

abbrev pub invariant-loop-left : goal.invariant-loop-left
invariant-loop-left g l = (ms : Members) (to : ℕ) → PairsAreEncodedAt l.fn.left ms l.fn.cursor.bytes l.fn.cursor.place to
    → LooksOn (g.K.Key.item l.key) ms l.fn.cursor.bytes l.fn.cursor.place to l.left l.cursor

abbrev pub decreases-loop-left : goal.decreases-loop-left
decreases-loop-left g l = length l.cursor.bytes - l.cursor.place
