use Rattle.passkey_repair.proofs.Places.{leaves_out}
use Rattle.passkey_repair.proofs.messages.change.leave_out.Goals as goal
use Rattle.passkey_repair.specs.messages.Views.{literal_item}

pub returns-in-Map : goal.returns-in-Map
returns-in-Map c =
    rw c.in-Map.is (leaves_out c.args.name.now (literal_item c.args.literal) c.in-Map.pairs
    c.remove_member-is_left_out.new.pairs c.remove_member-is_left_out.result c.remove_member-is_left_out.ensures)
