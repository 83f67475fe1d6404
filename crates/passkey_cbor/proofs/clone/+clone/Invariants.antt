use Rattle.std.proofs.Common.{◌≡◌, map, take}
use Rattle.passkey_cbor.specs.View.{item_of, pair_of}
use Rattle.passkey_cbor.proofs.clone.+clone.Given as goal

abbrev pub invariant-copy_items-loop-item : goal.invariant-copy_items-loop-item
invariant-copy_items-loop-item l = map item_of l.copies.items ≡ map item_of (take l.item-index l.items)

abbrev pub invariant-copy_pairs-loop-key : goal.invariant-copy_pairs-loop-key
invariant-copy_pairs-loop-key l = map pair_of l.copies.items ≡ map pair_of (take l.key-index l.pairs)
