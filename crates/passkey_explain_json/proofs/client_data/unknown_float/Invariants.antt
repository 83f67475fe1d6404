use Rattle.std.proofs.Common.{◌≡◌}
use Rattle.passkey_explain_json.specs.ClientDataBlame.{first_float}
use Rattle.serde_json.specs.View.{members_view}
use Rattle.passkey_explain_json.proofs.client_data.unknown_float.Given as goal

abbrev pub invariant-loop-name : goal.invariant-loop-name
invariant-loop-name l = first_float (members_view l.members.entries) ≡ first_float (members_view l.name-iterator)
