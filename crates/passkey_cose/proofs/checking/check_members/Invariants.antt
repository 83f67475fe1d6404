use Rattle.std.proofs.Common.{◌≡◌, [], map, take, drop}
use Rattle.passkey_cbor.specs.View.{pair_of}
use Rattle.passkey_cose.specs.KeyFaults.{first_fault}
use Rattle.passkey_cose.specs.Seen.{Holds, labels_of}
use Rattle.passkey_cose.proofs.checking.check_members.Given as goal

abbrev pub invariant-loop-i : goal.invariant-loop-i
invariant-loop-i l = record {
  left : first_fault (map pair_of (take l.i l.members)) (map pair_of (drop l.i l.members))
      ≡ first_fault [] (map pair_of l.members);
  held : Holds l.seen (labels_of (map pair_of (take l.i l.members)));
}
