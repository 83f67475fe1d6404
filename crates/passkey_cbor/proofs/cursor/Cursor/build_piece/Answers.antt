use Rattle.std.proofs.Common.{refl}
use Rattle.passkey_cbor.specs.CursorState.{ahead}
use Rattle.passkey_cbor.specs.Reading.{piece_at}
use Rattle.passkey_cbor.specs.Building.{some_bytes}
use Rattle.passkey_cbor.proofs.building.Gathering.{makes_one}
use Rattle.passkey_cbor.proofs.heads.HeadCounts.{spans_piece}
use Rattle.passkey_cbor.proofs.cursor.Cursor.build_piece.Goals as goal

pub returns-in_ok-copied-in-Some-clause-made : goal.returns-in_ok-copied-in-Some-clause-made
returns-in_ok-copied-in-Some-clause-made c =
    makes_one some_bytes (piece_at c.args.is_text c.args.len (ahead c.args.self.now)) c.in-Some.piece.now
    c.args.self.now c.piece.new.self c.in_ok-copied-in-Some.field-0 c.in-Some.ensures.reads.passed
    (spans_piece c.args.is_text c.args.len c.args.self.now c.piece.new.self c.in-Some.piece.now
    c.in-Some.ensures.reads) c.in-Some.ensures.reads.reads c.in_ok-copied-in-Some.ensures.copy refl
