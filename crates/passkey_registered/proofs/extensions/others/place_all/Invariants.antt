use Rattle.passkey_registered.specs.extensions.Others.{with_all}
use Rattle.passkey_kinds.specs.Words.{pair_of}
use Rattle.std.proofs.Common.{◌≡◌, drop, map}
use Rattle.passkey_registered.proofs.extensions.others.place_all.Given as goal

abbrev pub invariant-loop-key : goal.invariant-loop-key
invariant-loop-key l = with_all (map pair_of (drop l.key-index l.others)) (map pair_of l.pairs.items)
    ≡ with_all (map pair_of l.others) (map pair_of l.fn.pairs.items)
