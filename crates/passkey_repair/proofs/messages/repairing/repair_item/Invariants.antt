use Rattle.passkey_cbor.specs.View.{item_of}
use Rattle.passkey_repair.proofs.Listing.{following}
use Rattle.passkey_repair.proofs.messages.repairing.repair_item.Given as goal
use Rattle.passkey_repair.specs.messages.Repaired.{repaired}
use Rattle.passkey_repair.specs.messages.Views.{edit_of}
use Rattle.std.proofs.Common.{drop, map, ◌≡◌}

abbrev pub invariant-loop-repair : goal.invariant-loop-repair
invariant-loop-repair l = repaired (map edit_of l.repairs) (item_of l.fn.value)
    ≡ following (map edit_of l.made.items) (repaired (map edit_of (drop l.repair-index l.repairs)) (item_of l.value))
