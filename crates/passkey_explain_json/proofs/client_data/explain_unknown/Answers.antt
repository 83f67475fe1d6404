use Rattle.std.proofs.Common.{◌≡◌, ◌∙◌, ◌++◌, ◌∷◌, [], List, ℕ, map, refl, sym, ap}
use Rattle.passkey_explain_json.proofs.ClientData.{no_float_left, float_explained}
use Rattle.passkey_json.specs.Blame.{step_of}
use Rattle.passkey_json.specs.declared.blame.JsonStep.{JsonStep}
use Rattle.passkey_json.specs.declared.blame.JsonStep.TheVariants as code
use Rattle.passkey_json.specs.Shape.{named}
use Rattle.serde_json.proofs.Views.{view-Object}
use Rattle.serde_json.specs.Data.{object}
use Rattle.serde_json.specs.View.{view, members_view}
use Rattle.passkey_explain_json.proofs.client_data.explain_unknown.Goals as goal

pub returns-in_default-unknown_float : goal.returns-in_default-unknown_float
returns-in_default-unknown_float c =
    let seen : view c.args.value.now ≡ object (members_view c.in-Object.members.entries) =
    ap view c.in-Object.is ∙ view-Object c.in-Object.members in
    no_float_left (view c.args.value.now) (members_view c.in-Object.members.entries) seen (sym c.in_default-unknown_float.ensures)

pub returns : goal.returns
returns c = λ fixed.
    let seen : view c.args.value.now ≡ object (members_view c.in-Object.members.entries) =
    ap view c.in-Object.is ∙ view-Object c.in-Object.members in
    let first = sym c.in-Some.ensures in
    let s = code.Named c.in_ok-from_str.field-0 in
    let path = ap (λ (ss : List JsonStep). map step_of (ss ++ s ∷ [])) c.new-path.ensures.items in
    float_explained (view c.args.value.now) (members_view c.in-Object.members.entries) seen _ first _ _ fixed refl
    (ap (map step_of) c.in_ok-push.ensures.items ∙ path
    ∙ ap (λ (n : List ℕ). named n ∷ []) c.in_ok-from_str.ensures.same) refl
