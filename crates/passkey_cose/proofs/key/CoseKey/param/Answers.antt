use Rattle.std.proofs.Common.{◌∙◌, refl, ap}
use Rattle.passkey_cbor.specs.Item.{Item}
use Rattle.passkey_cbor.specs.Same.{item_eq}
use Rattle.passkey_cose.specs.KeyLabels.{value_at}
use Rattle.passkey_cose.specs.Label.{label_item}
use Rattle.passkey_cose.proofs.Searching.{value_found}
use Rattle.passkey_cose.proofs.key.CoseKey.param.Goals as goal

pub returns : goal.returns
returns c =
    let label = label_item c.args.label.now in
    value_found label_item (λ (m : Item × Item). item_eq label m.0) (λ l. item_eq label (label_item l)) (λ p. refl)
    _ _ c.find.ensures ∙ ap (value_at label) c.params.ensures.value
