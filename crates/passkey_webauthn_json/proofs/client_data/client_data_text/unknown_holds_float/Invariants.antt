use Rattle.std.proofs.Common.{◌≡◌}
use Rattle.passkey_webauthn_json.proofs.client_data.client_data_text.unknown_holds_float.Given as goal
use Rattle.serde_json.specs.View.{members_view}
use Rattle.serde_json.specs.Written.{members_have_float}

abbrev pub invariant-loop-name : goal.invariant-loop-name
invariant-loop-name l =
    members_have_float (members_view l.members.entries) ≡ members_have_float (members_view l._name-iterator)
