use Rattle.std.proofs.Common.{◌≡◌, map, take}
use Rattle.passkey_cbor.specs.View.{pair_of}
use Rattle.passkey_explain.specs.DescribedData.{described_member, field_of, type_of}
use Rattle.passkey_explain.proofs.data_items.key.describe_members.Given as goal

abbrev pub invariant-loop-label : goal.invariant-loop-label
invariant-loop-label l =
    map field_of l.all.items
    ≡ map (λ m. described_member (type_of l.key_type) m.0 m.1) (map pair_of (take l.label-index l.pairs))
