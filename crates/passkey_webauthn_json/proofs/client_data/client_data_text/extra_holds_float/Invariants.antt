use Rattle.std.proofs.Common.{◌≡◌, drop}
use Rattle.passkey_webauthn_json.proofs.client_data.client_data_text.extra_holds_float.Given as goal
use Rattle.serde_json.specs.View.{members_view}
use Rattle.serde_json.specs.Written.{members_have_float}

abbrev pub invariant-loop-name : goal.invariant-loop-name
invariant-loop-name l =
    members_have_float (members_view l.members) ≡ members_have_float (members_view (drop l._name-index l.members))
