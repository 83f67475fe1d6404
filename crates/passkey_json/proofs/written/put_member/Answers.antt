use Rattle.std.proofs.Common.{refl}
use Rattle.passkey_json.proofs.written.put_member.Goals as goal
use Rattle.serde_json.proofs.Views.{members_view-insert_entry}

pub returns-clause-written : goal.returns-clause-written
returns-clause-written c =
    rw (c.in_ok-insert.ensures.entries, members_view-insert_entry, c.in_ok-from_str.ensures.ok) refl
