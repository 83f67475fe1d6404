use Rattle.passkey_repair.proofs.Places.{adds}
use Rattle.passkey_repair.proofs.messages.change.add.Goals as goal
use Rattle.passkey_repair.specs.messages.Views.{literal_item}

pub returns-in_ok-is_added-in-Map : goal.returns-in_ok-is_added-in-Map
returns-in_ok-is_added-in-Map c =
    rw c.in-Map.is (adds c.args.name.now c.args.beside.now (literal_item c.args.literal) c.in-Map.pairs
    c.add_member.new.pairs c.in_ok-is_added-in-Map.is_added c.in_ok-is_added-in-Map.ensures)
