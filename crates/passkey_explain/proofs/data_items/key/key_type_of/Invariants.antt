use Rattle.std.proofs.Common.{◌≡◌, map, drop}
use Rattle.passkey_cbor.specs.View.{pair_of}
use Rattle.passkey_explain.specs.DescribedData.{type_in}
use Rattle.passkey_explain.proofs.data_items.key.key_type_of.Given as goal

abbrev pub invariant-loop-label : goal.invariant-loop-label
invariant-loop-label l = type_in (map pair_of (drop l.label-index l.pairs)) ≡ type_in (map pair_of l.pairs)
