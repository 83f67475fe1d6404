use Rattle.std.proofs.Common.{◌∙◌, ap, refl, sym}
use Rattle.passkey_json.proofs.Blames.{blames_under}
use Rattle.passkey_json.specs.Along.{list_shape}
use Rattle.passkey_json.specs.Shape.{element, first_element, part, tested, within}
use Rattle.passkey_json.specs.declared.blame.JsonStep.TheVariants.{Element}
use Rattle.serde_json.proofs.Views.{view-Array}
use Rattle.serde_json.specs.View.{items_view, view}
use Rattle.passkey_json.proofs.list.ListFromJson.blame.Goals as goal

pub returns-in-Some : goal.returns-in-Some
returns-in-Some g c =
    let t = tested g.T.FromJson.kind g.T.FromJson.shape in
    let s = list_shape g.T.FromJson.kind g.T.FromJson.shape in
    let seen = ap view c.in-Array.is ∙ view-Array c.in-Array.elements in
    let first = rw c.in-Some.is at c.in_ok-index.ensures
    ∙ ap (λ xs. first_element t 0 (items_view xs)) c.deref.ensures.value in
    blames_under s (view c.args.value.now) (part (element c.in-Some.index) (view c.in-Some.element.now) t)
    (Element c.in-Some.index) c.in_ok-blame.field-0 _ (ap (within s) seen ∙ sym first) refl c.in_ok-blame.ensures
    c.under.ensures
