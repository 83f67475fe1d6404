use Rattle.std.proofs.Common.{◌∙◌, refl}
use Rattle.passkey_cbor.specs.Item.{Item}
use Rattle.passkey_cbor.specs.Same.{item_eq}
use Rattle.passkey_cbor.specs.View.{item_of}
use Rattle.passkey_cose.proofs.Searching.{any_found}
use Rattle.passkey_cose.proofs.checking.is_taken.Goals as goal

pub returns : goal.returns
returns c =
    let label = item_of c.args.label.now in
    c.is_some.ensures ∙ any_found item_of (λ (m : Item × Item). item_eq label m.0) (λ l. item_eq label (item_of l))
    (λ p. refl) _ _ c.find.ensures
