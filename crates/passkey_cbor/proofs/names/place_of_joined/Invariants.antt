use Rattle.std.proofs.Common.{◌≡◌, ◌-◌, length, map, None}
use Rattle.passkey_cbor.proofs.strings.Chunks.{Seeks}
use Rattle.passkey_cbor.proofs.names.place_of_joined.Given as goal

abbrev pub invariant-loop-head : goal.invariant-loop-head
invariant-loop-head l = record {
  unknown : l.left ≡ None;
  seeks : Seeks l.is_text (map (λ n. n.now) l.names) l.left l.fn.chunks l.chunks l.joined;
}

abbrev pub decreases-loop-head : goal.decreases-loop-head
decreases-loop-head l = length l.chunks.bytes - l.chunks.place
