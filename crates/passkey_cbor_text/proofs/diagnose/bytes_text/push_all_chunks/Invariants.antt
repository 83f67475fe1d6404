use Rattle.std.proofs.Common.{◌≡◌, [], length, true, None, string_bytes}
use Rattle.passkey_cbor_text.specs.diagnose.BytesText.{chunk_text, parts_text}
use Rattle.passkey_cbor_text.proofs.diagnose.bytes_text.push_all_chunks.Given as goal

abbrev pub invariant-loop-alloc : goal.invariant-loop-alloc
invariant-loop-alloc l =
    parts_text (chunk_text l.is_text) [] l.others None l.is_first l.here (string_bytes l.out)
    ≡ parts_text (chunk_text l.is_text) [] (length l.bytes) None true l.bytes (string_bytes l.initial.out)

abbrev pub decreases-loop-alloc : goal.decreases-loop-alloc
decreases-loop-alloc l = l.others
