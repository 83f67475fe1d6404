use Rattle.std.proofs.Common.{◌≡◌, drop}
use Rattle.passkey_cbor.specs.Same.{items_eq, pairs_eq}
use Rattle.passkey_cbor.specs.View.{items_view, pairs_view}
use Rattle.passkey_cbor.proofs.equality.+equality.Given as goal

abbrev pub invariant-items_equal-loop-x : goal.invariant-items_equal-loop-x
invariant-items_equal-loop-x l =
    items_eq (items_view (drop l.x-index l.a)) (items_view l.rest) ≡ items_eq (items_view l.a) (items_view l.b)

abbrev pub invariant-pairs_equal-loop-key : goal.invariant-pairs_equal-loop-key
invariant-pairs_equal-loop-key l =
    pairs_eq (pairs_view (drop l.key-index l.a)) (pairs_view l.rest) ≡ pairs_eq (pairs_view l.a) (pairs_view l.b)
