use Rattle.std.proofs.Common.{length}
use Rattle.passkey_malformed.proofs.Chunks.{ChunksGo}
use Rattle.passkey_malformed.proofs.strings.after_chunks.Given as goal

abbrev pub invariant-loop-found : goal.invariant-loop-found
invariant-loop-found l = ChunksGo l.is_text l.fn.bytes l.here

abbrev pub decreases-loop-found : goal.decreases-loop-found
decreases-loop-found l = length l.here
