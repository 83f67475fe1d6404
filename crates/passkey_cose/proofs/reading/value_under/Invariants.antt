use Rattle.std.proofs.Common.{◌≡◌, map, drop}
use Rattle.passkey_cbor.specs.View.{pair_of}
use Rattle.passkey_cose.specs.KeyReading.{under}
use Rattle.passkey_cose.proofs.reading.value_under.Given as goal

abbrev pub invariant-loop-name : goal.invariant-loop-name
invariant-loop-name l = under l.label (map pair_of (drop l.name-index l.members)) ≡ under l.label (map pair_of l.members)
