use Rattle.std.proofs.Common.{◌≡◌, [], map, take, drop}
use Rattle.passkey_cbor.specs.View.{item_of}
use Rattle.passkey_cose.specs.KeyFaults.{first_op_fault}
use Rattle.passkey_cose.specs.Seen.{Holds}
use Rattle.passkey_cose.proofs.checking.check_each_op.Given as goal

abbrev pub invariant-loop-i : goal.invariant-loop-i
invariant-loop-i l = record {
  left : first_op_fault (map item_of (take l.i l.ops)) (map item_of (drop l.i l.ops))
      ≡ first_op_fault [] (map item_of l.ops);
  held : Holds l.seen (map item_of (take l.i l.ops));
}
