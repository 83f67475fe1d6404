use Rattle.std.proofs.Common.{◌≡◌, ◌++◌, ◌≤◌, length, map, take, drop, None}
use Rattle.passkey_cbor.specs.View.{pair_of}
use Rattle.passkey_cose.specs.KeyFaults.{first_fault}
use Rattle.passkey_cose.specs.KeyParams.{params_of}
use Rattle.passkey_cose.specs.KeyReading.{further}
use Rattle.passkey_cose.specs.Pairs.{values_in}
use Rattle.passkey_cose.proofs.reading.read_params.Given as goal

abbrev pub invariant-loop-i : goal.invariant-loop-i
invariant-loop-i l = record {
  done : params_of l.params.items ++ further (map pair_of (drop l.i (values_in l.initial.pairs)))
      ≡ further (map pair_of (values_in l.initial.pairs));
  good : first_fault (map pair_of (take l.i (values_in l.initial.pairs)))
      (map pair_of (drop l.i (values_in l.initial.pairs)))
      ≡ None;
  as_many : length (values_in l.pairs) ≡ length (values_in l.initial.pairs);
  within : l.i-end ≤ length (values_in l.initial.pairs);
  left : drop l.i (values_in l.pairs) ≡ drop l.i (values_in l.initial.pairs);
}
