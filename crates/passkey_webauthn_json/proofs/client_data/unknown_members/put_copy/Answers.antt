use Rattle.std.proofs.Common.{ap}
use Rattle.passkey_webauthn_json.proofs.Copied.{members_view-inserted}
use Rattle.passkey_webauthn_json.proofs.client_data.unknown_members.put_copy.Goals as goal
use Rattle.passkey_webauthn_json.specs.client_data.MemberLists.{added}
use Rattle.serde_json.specs.Data.{Data}
use Rattle.serde_json.specs.View.{members_view}

pub returns : goal.returns
returns c =
    rw (c.in_ok-insert.ensures.entries, members_view-inserted, c.in_ok-from_str.ensures.ok) (ap
    (λ (d : Data). added c.args.name.now d (members_view c.args.copies.now.entries)) c.in_ok-copy.ensures.cases)
