use Rattle.std.proofs.Common.{◌≡◌, ◌++◌, false}
use Rattle.std.specs.String.{string_bytes}
use Rattle.passkey_webauthn_json.proofs.client_data.client_data_text.put_unknown.Given as goal
use Rattle.passkey_webauthn_json.specs.client_data.ClientDataText.{later_text}
use Rattle.serde_json.specs.View.{members_view}
use Rattle.serde_json.specs.Written.{members_have_float}

abbrev pub invariant-loop-name : goal.invariant-loop-name
invariant-loop-name l =
    members_have_float (members_view l.members.entries) ≡ false →
    (members_have_float (members_view l.name-iterator) ≡ false)
    × (string_bytes l.text ++ later_text (members_view l.name-iterator)
    ≡ string_bytes l.fn.text ++ later_text (members_view l.members.entries))
