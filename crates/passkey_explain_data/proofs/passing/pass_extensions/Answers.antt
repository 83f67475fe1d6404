use Rattle.std.proofs.Common.{◌≡◌, ◌∙◌, ℕ, List, Ok, ap, refl, sym, subst}
use Rattle.passkey_cbor.proofs.building.Views.{item_of-Map}
use Rattle.passkey_cbor.specs.Item.{Item, map}
use Rattle.passkey_cbor.specs.View.{item_of, pairs_view}
use Rattle.passkey_core.specs.DataReading.{read_map, ReadsItem}
use Rattle.passkey_explain_data.specs.DataBlame.{ReadsTo}
use Rattle.passkey_explain_data.proofs.DataPassing.{map_read}
use Rattle.passkey_explain_data.proofs.passing.pass_extensions.Goals as goal

pub returns-in-Map : goal.returns-in-Map
returns-in-Map c =
    let i = item_of c.in-Ok.front.0 in
    let is : i ≡ map (pairs_view c.in-Map.field-0.items) = ap item_of c.in-Map.is ∙ item_of-Map c.in-Map.field-0 in
    let reads : read_map i ≡ Ok i = subst (λ (j : Item). read_map j ≡ Ok j) (sym is) refl in
    subst (λ (bs : List ℕ). ReadsTo (ReadsItem read_map c.args.rest.now) bs) (sym c.split_at.ensures.back)
    (map_read c.args.rest.now i c.in-Ok.front.1 c.in-Ok.ensures reads)
