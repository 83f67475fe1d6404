use Rattle.std.proofs.Common.{◌≡◌, ◌≤◌, length, map}
use Rattle.passkey_cbor.specs.View.{pair_of}
use Rattle.passkey_cbor_text.specs.values.Ordered.{place_below}
use Rattle.passkey_cbor_text.proofs.values.order.place.Given as goal

abbrev pub decreases-loop-left : goal.decreases-loop-left
decreases-loop-left l = l.left

abbrev pub invariant-loop-left : goal.invariant-loop-left
invariant-loop-left l = (l.left ≤ length l.members)
    × (place_below (map pair_of l.members) l.encoding l.left
    ≡ place_below (map pair_of l.members) l.encoding (length l.members))
