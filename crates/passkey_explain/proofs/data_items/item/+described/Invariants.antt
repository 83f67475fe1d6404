use Rattle.std.proofs.Common.{◌≡◌, map, take}
use Rattle.passkey_cbor.specs.View.{item_of, pair_of}
use Rattle.passkey_explain.specs.Described.{described_of, key, labelled}
use Rattle.passkey_kinds.specs.declared.wanted.Wanted.TheVariants as wanted
use Rattle.passkey_explain.specs.DescribedData.{described_item, wanted_by}
use Rattle.passkey_explain.proofs.data_items.item.+described.Given as goal

abbrev pub invariant-describe_array-loop-element : goal.invariant-describe_array-loop-element
invariant-describe_array-loop-element l =
    map described_of l.all.items
    ≡ map (described_item wanted.Any) (map item_of (take l.element-index l.elements))

abbrev pub invariant-describe_map-loop-key : goal.invariant-describe_map-loop-key
invariant-describe_map-loop-key l =
    map (λ p. labelled (key (item_of p.0)) (described_of p.1)) l.all.items
    ≡ map (λ m. labelled (key m.0) (described_item (wanted_by m.0) m.1)) (map pair_of (take l.key-index l.pairs))
