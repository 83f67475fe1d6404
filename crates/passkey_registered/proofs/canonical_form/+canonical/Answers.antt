use Rattle.std.proofs.Common.{◌∙◌, List, map, sym, ap}
use Rattle.passkey_cbor.proofs.building.Views.{item_of-Array, item_of-Map}
use Rattle.passkey_cbor.specs.Item.{Item, array, items_of, pairs_of}
use Rattle.passkey_cbor.specs.Item as item
use Rattle.passkey_cbor.specs.View.{item_of, pair_of}
use Rattle.passkey_cbor.specs.declared.value.Value.{Value}
use Rattle.passkey_registered.proofs.Sorting.{items_in_order, map_in_order}
use Rattle.passkey_registered.specs.CanonicalForm.{canonical_form}
use Rattle.passkey_kinds.specs.Words.{Members}
use Rattle.passkey_registered.proofs.canonical_form.+canonical.Goals as goal

pub in_order-returns-in_ok-in_order_elements-in-Array : goal.in_order-returns-in_ok-in_order_elements-in-Array
in_order-returns-in_ok-in_order_elements-in-Array t c =
    let values = c.deref.result.now in
    let is = ap item_of c.in-Array.is ∙ item_of-Array c.in-Array.elements
    ∙ ap (λ (vs : List Value). array (items_of (map item_of vs))) (sym c.deref.ensures.value) in
    item_of-Array c.in_ok-in_order_elements-in-Array.field-0
    ∙ ap (λ (xs : List Item). array (items_of xs)) c.in_ok-in_order_elements-in-Array.ensures
    ∙ ap array (sym (items_in_order (map item_of values)))
    ∙ sym (ap canonical_form is)

pub in_order-returns-in_ok-in_order_members-in-Map : goal.in_order-returns-in_ok-in_order_members-in-Map
in_order-returns-in_ok-in_order_members-in-Map t c =
    let pairs = c.deref-in-Map.result.now in
    let is = ap item_of c.in-Map.is ∙ item_of-Map c.in-Map.pairs
    ∙ ap (λ (ps : List (Value × Value)). item.map (pairs_of (map pair_of ps))) (sym c.deref-in-Map.ensures.value) in
    item_of-Map c.in_ok-in_order_members-in-Map.field-0
    ∙ ap (λ (ms : Members). item.map (pairs_of ms)) c.in_ok-in_order_members-in-Map.ensures
    ∙ sym (map_in_order (map pair_of pairs))
    ∙ sym (ap canonical_form is)
