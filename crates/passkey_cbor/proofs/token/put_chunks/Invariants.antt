use Rattle.std.proofs.Common.{◌≡◌, ◌≤◌, ◌-◌, false, length, take, None}
use Rattle.passkey_cbor.proofs.strings.Chunks.{Collects}
use Rattle.passkey_cbor.proofs.token.put_chunks.Given as goal

abbrev pub invariant-loop-head : goal.invariant-loop-head
invariant-loop-head l = record {
  unknown : l.left ≡ None;
  collects : Collects false l.left l.fn.chunks l.chunks (take l.at l.into);
  within : l.at ≤ length l.into;
  same : length l.into ≡ length l.fn.into;
}

abbrev pub decreases-loop-head : goal.decreases-loop-head
decreases-loop-head l = length l.chunks.bytes - l.chunks.place
