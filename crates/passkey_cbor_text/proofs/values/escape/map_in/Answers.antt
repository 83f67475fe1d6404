use Rattle.std.proofs.Common.{◌∙◌, ap, map, List, []}
use Rattle.passkey_cbor.proofs.building.Views.{item_of-Array, item_of-Map}
use Rattle.passkey_cbor.specs.View.{item_of, pair_of}
use Rattle.passkey_cbor.specs.declared.value.Value.{Value}
use Rattle.passkey_cbor_text.proofs.Gathering.{fails_here}
use Rattle.passkey_cbor_text.proofs.Pairs.{map_found, no_map}
use Rattle.passkey_cbor_text.specs.declared.values.no_item.ItemReason.TheVariants.{Pairs as NoPairs}
use Rattle.passkey_cbor_text.specs.values.JsonItem.{pairs_from}
use Rattle.passkey_cbor_text.proofs.values.escape.map_in.Goals as goal

pub returns-in-Some : goal.returns-in-Some
returns-in-Some c = rw (c.in-Array.is, item_of-Array c.in-Array.pairs, item_of-Map c.in-Some.members)
    (map_found (map item_of c.in-Array.pairs.items) (map pair_of c.in-Some.members.items)
    ((rw c.in-Some.is at c.in_ok-members.ensures)
    ∙ ap (λ (vs : List Value). pairs_from [] (map item_of vs)) c.deref.ensures.value))

pub returns-in-None : goal.returns-in-None
returns-in-None c = fails_here NoPairs _ c.here-in-None.result
    (rw (c.in-Array.is, item_of-Array c.in-Array.pairs) (no_map (map item_of c.in-Array.pairs.items)
    ((rw c.in-None.is at c.in_ok-members.ensures)
    ∙ ap (λ (vs : List Value). pairs_from [] (map item_of vs)) c.deref.ensures.value)))
    c.here-in-None.ensures
