use Rattle.std.proofs.Common.{◌≡◌, [], map, take, drop}
use Rattle.passkey_cbor.specs.View.{item_of}
use Rattle.passkey_cose.specs.KeyFaults.{first_op_fault}
use Rattle.passkey_explain_data.specs.Names.{Holds}
use Rattle.passkey_explain_data.proofs.checking.first_op_fault.Given as goal

abbrev pub invariant-loop-i : goal.invariant-loop-i
invariant-loop-i l = record {
  left : first_op_fault (map item_of (take l.i l.ops)) (map item_of (drop l.i l.ops))
      ≡ first_op_fault [] (map item_of l.ops);
  held : Holds l.before (map item_of (take l.i l.ops));
}
