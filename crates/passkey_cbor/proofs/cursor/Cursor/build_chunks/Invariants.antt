use Rattle.std.proofs.Common.{◌≡◌, ◌-◌, true, length, None}
use Rattle.passkey_cbor.specs.Reading.{is_allowed}
use Rattle.passkey_cbor.proofs.strings.Chunks.{Collects}
use Rattle.passkey_cbor.proofs.cursor.Cursor.build_chunks.Given as goal

abbrev pub invariant-loop-bytes : goal.invariant-loop-bytes
invariant-loop-bytes l = record {
  unknown : l.left ≡ None;
  collects : Collects l.is_text l.left l.fn.self l.self l.bytes.items;
  allowed_text : is_allowed l.is_text l.bytes.items ≡ true;
}

abbrev pub decreases-loop-bytes : goal.decreases-loop-bytes
decreases-loop-bytes l = length l.self.bytes - l.self.place
