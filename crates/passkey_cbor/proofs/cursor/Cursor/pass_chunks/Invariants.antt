use Rattle.std.proofs.Common.{◌≡◌, ◌-◌, length, None}
use Rattle.passkey_cbor.specs.HeadsDecoded.{chunk_heads}
use Rattle.passkey_cbor.specs.Reading.{chunk}
use Rattle.passkey_cbor.proofs.strings.Chunks.{Measures}
use Rattle.passkey_cbor.proofs.heads.HeadsDecoded.{Tallies}
use Rattle.passkey_cbor.proofs.cursor.Cursor.pass_chunks.Given as goal

abbrev pub invariant-loop-head : goal.invariant-loop-head
invariant-loop-head l = Measures l.is_text l.left l.fn.self l.self l.size
    × Tallies (chunk l.is_text) chunk_heads None l.left l.fn.self l.self × (l.left ≡ None)

abbrev pub decreases-loop-head : goal.decreases-loop-head
decreases-loop-head l = length l.self.bytes - l.self.place
