use Rattle.std.proofs.Common.{◌≡◌, [], drop, map}
use Rattle.passkey_cbor.specs.View.{item_of, pair_of}
use Rattle.passkey_cbor_text.specs.values.JsonItem.{pairs_from}
use Rattle.passkey_cbor_text.proofs.values.escape.pairs_in.Given as goal

abbrev pub invariant-loop-pair : goal.invariant-loop-pair
invariant-loop-pair l =
    pairs_from (map pair_of l.all.items) (drop l.pair-index (map item_of l.pairs)) ≡ pairs_from [] (map item_of l.pairs)
