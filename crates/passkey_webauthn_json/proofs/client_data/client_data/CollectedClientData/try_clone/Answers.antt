use Rattle.std.proofs.Common.{refl}
use Rattle.passkey_webauthn_json.proofs.Copied.{members_view-clone}
use Rattle.passkey_webauthn_json.proofs.client_data.client_data.CollectedClientData.try_clone.Goals as goal

pub returns : goal.returns
returns g c =
    let keys = members_view-clone c.args.self.now.unknown_keys.entries c.in_ok-clone.field-0.entries
    c.in_ok-clone.ensures.cases in
    rw (c.in_ok-try_clone.ensures.same, c.in_ok-try_clone-2.ensures.same, c.in_ok-try_clone-3.ensures, keys) refl
