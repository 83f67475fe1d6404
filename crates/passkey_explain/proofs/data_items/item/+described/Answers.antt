use Rattle.std.proofs.Common.{◌≡◌, ◌∙◌, OnOk, List, map, sym, ap, subst}
use Rattle.std.proofs.lemmas.List.{take_all}
use Rattle.passkey_cbor.proofs.building.Views.{item_of-Map}
use Rattle.passkey_cbor.specs.Item as item
use Rattle.passkey_cbor.specs.Item.{Item, pairs_of}
use Rattle.passkey_cbor.specs.View.{item_of, pair_of}
use Rattle.passkey_cbor.specs.declared.value.Value.{Value}
use Rattle.passkey_explain.proofs.DescribingData.{array_described, map_described}
use Rattle.passkey_explain.specs.Described.{described_of}
use Rattle.passkey_explain.specs.DescribedData.{described_item, wanted_by}
use Rattle.passkey_explain.specs.Described as spec
use Rattle.passkey_explain.specs.Described.{labelled}
use Rattle.passkey_kinds.specs.declared.wanted.Wanted.TheVariants as wanted
use Rattle.passkey_explain.proofs.data_items.item.+described.Goals as goal

pub describe_array-returns : goal.describe_array-returns
describe_array-returns t c =
    let elements = c.args.elements.now in
    ap described_of c.put.ensures
    ∙ array_described c.loop-element.all elements
    (c.loop-element.invariant
    ∙ ap (λ (xs : List Value). map (described_item wanted.Any) (map item_of xs))
    (take_all c.loop-element.element-index elements c.loop-element-test.false))

pub describe_map-returns : goal.describe_map-returns
describe_map-returns t c =
    let pairs = c.args.pairs.now in
    ap described_of c.put.ensures
    ∙ map_described c.loop-key.all pairs
    (c.loop-key.invariant
    ∙ ap (λ (ps : List (Value × Value)). map (λ m. labelled (spec.key m.0) (described_item (wanted_by m.0) m.1)) (map pair_of ps))
    (take_all c.loop-key.key-index pairs c.loop-key-test.false))

pub describe_as-returns-in-Map : goal.describe_as-returns-in-Map
describe_as-returns-in-Map t c =
    let is = ap item_of c.in-Map.is ∙ item_of-Map c.in-Map.pairs
    ∙ ap (λ (ps : List (Value × Value)). item.map (pairs_of (map pair_of ps))) (sym c.deref-in-Map.ensures.value) in
    subst (λ (i : Item). OnOk c.describe_map.result (described_of c.describe_map.new.out ≡ described_item c.args.wanted i))
    (sym is) c.describe_map.ensures
