use Rattle.std.proofs.Common.{◌∙◌, ap, sym}
use Rattle.passkey_json.proofs.Blames.{blames_under}
use Rattle.passkey_json.specs.Along.{map_shape}
use Rattle.passkey_json.specs.Shape.{named, part, tested, within}
use Rattle.passkey_json.specs.declared.blame.JsonStep.TheVariants.{Named}
use Rattle.serde_json.proofs.Views.{view-Object}
use Rattle.serde_json.specs.View.{view}
use Rattle.passkey_json.proofs.map.MapTextFromJson.blame.Goals as goal

pub returns-in-Some : goal.returns-in-Some
returns-in-Some g c =
    let t = tested g.T.FromJson.kind g.T.FromJson.shape in
    let s = map_shape g.T.FromJson.kind g.T.FromJson.shape in
    let seen = ap view c.in-Object.is ∙ view-Object c.in-Object.members in
    let first = rw c.in-Some.is at c.in_ok-name.ensures in
    blames_under s (view c.args.value.now) (part (named c.in-Some.name.now) (view c.in-Some.member.now) t)
    (Named c.in_ok-from_str.field-0) c.in_ok-blame.field-0 _ (ap (within s) seen ∙ sym first)
    (ap named (sym c.in_ok-from_str.ensures.same)) c.in_ok-blame.ensures c.under.ensures
