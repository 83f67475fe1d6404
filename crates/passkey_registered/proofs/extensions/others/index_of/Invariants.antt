use Rattle.passkey_registered.specs.extensions.Others.{place_in}
use Rattle.passkey_kinds.specs.Words.{pair_of}
use Rattle.std.proofs.Common.{◌≡◌, ◌+◌, drop, map}
use Rattle.passkey_registered.proofs.extensions.others.index_of.Given as goal

abbrev pub invariant-loop-index : goal.invariant-loop-index
invariant-loop-index l = l.index + place_in l.encoded (map pair_of (drop l.index l.pairs))
    ≡ place_in l.encoded (map pair_of l.pairs)
