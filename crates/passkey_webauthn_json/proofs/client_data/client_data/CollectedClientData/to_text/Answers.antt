use Rattle.std.proofs.Common.{◌≡◌, ◌∙◌, ℕ, List, Ok, false, ap, sym}
use Rattle.passkey_webauthn_json.proofs.Texts.{whole_text}
use Rattle.passkey_webauthn_json.proofs.client_data.client_data.CollectedClientData.to_text.Goals as goal
use Rattle.passkey_webauthn_json.specs.client_data.ClientData.{held}
use Rattle.passkey_webauthn_json.specs.client_data.ClientDataText.{client_data_text}
use Rattle.serde_json.specs.View.{members_view}
use Rattle.serde_json.specs.Written.{members_have_float}

pub returns : goal.returns
unfolding client_data_text
returns g c =
    let written = c.in_ok-extra.ensures in
    let decoded_or_fault = rw c.deref.ensures.value at c.extra_holds_float.ensures in
    let extra : members_have_float (members_view c.in_ok-extra.extra.items) ≡ false =
    sym decoded_or_fault ∙ c.if-extra_holds_float.false in
    let unknown : members_have_float (members_view c.args.self.now.unknown_keys.entries) ≡ false =
    sym c.unknown_holds_float.ensures ∙ c.if-unknown_holds_float.false in
    let put = rw c.deref-2.ensures.value at c.in_ok-put_extra.ensures in
    let whole = whole_text (held c.args.self.now) (members_view c.in_ok-extra.extra.items)
    (members_view c.args.self.now.unknown_keys.entries) in
    rw (
      ← written,
      extra,
      unknown,
      c.from.ensures,
      c.in_ok-push_str.ensures.bytes,
      c.in_ok-put_unknown.ensures
          unknown,
      put extra,
      c.in_ok-text.ensures,
    ) (ap (λ (s : List ℕ). Ok s) (sym whole))
