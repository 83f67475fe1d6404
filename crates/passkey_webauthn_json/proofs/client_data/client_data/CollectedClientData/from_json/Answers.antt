use Rattle.std.proofs.Common.{◌≡◌, ◌∙◌, Ok, Err, refl, sym, ap, subst}
use Rattle.std.proofs.lemmas.Bool.{or_left, or_right}
use Rattle.std.specs.Prelude.{IsTrue}
use Rattle.passkey_webauthn_json.proofs.FaultsPassed.{fault_passed}
use Rattle.passkey_webauthn_json.proofs.client_data.client_data.CollectedClientData.from_json.Goals as goal
use Rattle.passkey_webauthn_json.specs.client_data.ClientData.{client_data_in, fixed_members, held}
use Rattle.passkey_json.specs.Fault.{Gives}
use Rattle.passkey_json.specs.Members.{in_object, takes_in}
use Rattle.passkey_json.specs.Table.{members_in, takes_of}
use Rattle.serde_json.proofs.Views.{view-Object}
use Rattle.serde_json.specs.Data.{Data, object}
use Rattle.serde_json.specs.View.{view, members_view}

pub returns-in_err-ty : goal.returns-in_err-ty
unfolding client_data_in
returns-in_err-ty g c =
    let seen : view c.args.value.now ≡ object (members_view c.in-Object.members.entries) =
    ap view c.in-Object.is ∙ view-Object c.in-Object.members in
    let fixed = subst (λ (d : Data). Gives (IsTrue (takes_in (takes_of fixed_members) d)) (in_object (members_in fixed_members) d)
    (Err c.in_err-ty.field-0.0)) seen c.in_err-ty.ensures in
    rw seen (fault_passed _ _ held _ c.in_err-ty.field-0.0 _ _ fixed c.from_residual.ensures.1
    (λ h. or_left _ _ (or_left _ _ h)))

pub returns-in_err-extra_data : goal.returns-in_err-extra_data
unfolding client_data_in
returns-in_err-extra_data g c =
    let seen : view c.args.value.now ≡ object (members_view c.in-Object.members.entries) =
    ap view c.in-Object.is ∙ view-Object c.in-Object.members in
    let fixed =
    subst (λ (d : Data). in_object (members_in fixed_members) d ≡ Ok c.in_ok-ty.field-0) seen c.in_ok-ty.ensures in
    let free = sym c.known_holds_float.ensures ∙ c.if-known_holds_float.false in
    let extra = subst (λ (d : Data). Gives (IsTrue (takes_in g.E.ClientDataExtra.takes d)) (in_object
    g.E.ClientDataExtra.reads d) (Err c.in_err-extra_data.field-0.0)) seen c.in_err-extra_data.ensures in
    rw (seen, fixed, free) (fault_passed _ _ held _ c.in_err-extra_data.field-0.0 _ _ extra
    c.from_residual-in_err-extra_data.ensures.1 (λ h. or_left _ _ (or_right _ _ h)))

pub returns-in_err-unknown_keys : goal.returns-in_err-unknown_keys
unfolding client_data_in
returns-in_err-unknown_keys g c =
    let seen : view c.args.value.now ≡ object (members_view c.in-Object.members.entries) =
    ap view c.in-Object.is ∙ view-Object c.in-Object.members in
    let fixed =
    subst (λ (d : Data). in_object (members_in fixed_members) d ≡ Ok c.in_ok-ty.field-0) seen c.in_ok-ty.ensures in
    let free = sym c.known_holds_float.ensures ∙ c.if-known_holds_float.false in
    let extra = subst (λ (d : Data). in_object g.E.ClientDataExtra.reads d ≡ Ok c.in_ok-extra_data.extra_data) seen
    c.in_ok-extra_data.ensures in
    rw (seen, fixed, free, extra) (fault_passed _ _ held _ c.in_err-unknown_keys.field-0.0 _ _
    c.in_err-unknown_keys.ensures c.from_residual-in_err-unknown_keys.ensures.1 (or_right _ _))

pub returns : goal.returns
unfolding client_data_in
returns g c =
    let seen : view c.args.value.now ≡ object (members_view c.in-Object.members.entries) =
    ap view c.in-Object.is ∙ view-Object c.in-Object.members in
    let fixed =
    subst (λ (d : Data). in_object (members_in fixed_members) d ≡ Ok c.in_ok-ty.field-0) seen c.in_ok-ty.ensures in
    let free = sym c.known_holds_float.ensures ∙ c.if-known_holds_float.false in
    let extra = subst (λ (d : Data). in_object g.E.ClientDataExtra.reads d ≡ Ok c.in_ok-extra_data.extra_data) seen
    c.in_ok-extra_data.ensures in
    rw (seen, fixed, free, extra, c.in_ok-unknown_keys.ensures) refl
