use Rattle.std.proofs.Common.{◌≡◌, [], map, take, drop}
use Rattle.passkey_cbor.specs.View.{pair_of}
use Rattle.passkey_cose.specs.Seen.{labels_of}
use Rattle.passkey_explain_data.specs.KeyBlame.{pairs_blame}
use Rattle.passkey_explain_data.specs.Names.{Holds}
use Rattle.passkey_explain_data.proofs.checking.blame_pairs.Given as goal

abbrev pub invariant-loop-i : goal.invariant-loop-i
invariant-loop-i l = record {
  left : pairs_blame l.key_type l.i (map pair_of (take l.i l.members)) (map pair_of (drop l.i l.members))
      ≡ pairs_blame l.key_type 0 [] (map pair_of l.members);
  held : Holds l.before (labels_of (map pair_of (take l.i l.members)));
}
