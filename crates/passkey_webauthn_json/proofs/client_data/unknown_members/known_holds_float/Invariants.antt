use Rattle.std.proofs.Common.{◌≡◌}
use Rattle.passkey_webauthn_json.proofs.client_data.unknown_members.known_holds_float.Given as goal
use Rattle.passkey_webauthn_json.specs.client_data.MemberLists.{members_where}
use Rattle.serde_json.specs.View.{members_view}
use Rattle.serde_json.specs.Written.{members_have_float}

abbrev pub invariant-loop-name : goal.invariant-loop-name
invariant-loop-name g l =
    members_have_float (members_where g.E.ClientDataExtra.has (members_view l.members.entries))
    ≡ members_have_float (members_where g.E.ClientDataExtra.has (members_view l.name-iterator))
