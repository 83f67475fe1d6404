use Rattle.std.proofs.Common.{refl}
use Rattle.passkey_repair.proofs.Removing.{members_without}
use Rattle.passkey_repair.proofs.json.objects.change_members.Goals as goal
use Rattle.serde_json.proofs.Views.{members_view-insert_entry}

pub returns-in-LeaveOut : goal.returns-in-LeaveOut
returns-in-LeaveOut c =
    rw (c.in-LeaveOut.is, c.remove.ensures.entries) (members_without c.args.name.now c.args.members.now.entries)

pub returns-in_ok-insert-in-Become : goal.returns-in_ok-insert-in-Become
returns-in_ok-insert-in-Become c =
    rw (
      c.in-Become.is,
      c.in_ok-insert-in-Become.ensures.entries,
      members_view-insert_entry,
      c.in_ok-from_str-in-Become.ensures.ok,
    ) refl
