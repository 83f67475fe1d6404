use Rattle.std.proofs.Common.{◌∙◌, List, ℕ, Option, length, ap, sym}
use Rattle.std.specs.Prelude.{unwrap_or}
use Rattle.passkey_cbor.specs.CursorState.{ahead}
use Rattle.passkey_cbor.proofs.skipping.After.{string_piece}
use Rattle.passkey_cbor.proofs.items.Binds.{some_is}
use Rattle.passkey_cbor.proofs.heads.HeadCounts.{spans_as, spans_piece}
use Rattle.passkey_cbor.proofs.heads.HeadsDecoded.{piece_heads}
use Rattle.passkey_cbor.proofs.cursor.Cursor.pass_string.Goals as goal

pub returns-in-None-piece-clause-skips : goal.returns-in-None-piece-clause-skips
returns-in-None-piece-clause-skips c = rw (string_piece c.args.is_text c.args.len c.in-Some.len
    (ahead c.args.self.now) c.in-Some.is) c.in-None-piece.ensures.reads

pub returns-in-Some-piece-clause-skips : goal.returns-in-Some-piece-clause-skips
returns-in-Some-piece-clause-skips c =
    let read = c.in-Some-piece.ensures.reads in
    rw (string_piece c.args.is_text c.args.len c.in-Some.len (ahead c.args.self.now) c.in-Some.is)
    (record {
      value = c.in-Some-piece.piece.now;
      reads = read.reads;
      passed = read.passed;
      spans = spans_as _ c.in-Some.len c.args.self.now c.piece.new.self (ap (λ (l : Option ℕ). unwrap_or l 0) c.in-Some.is)
          (spans_piece c.args.is_text c.in-Some.len c.args.self.now c.piece.new.self c.in-Some-piece.piece.now read);
    })

pub returns-in-Some-piece-clause-size : goal.returns-in-Some-piece-clause-size
returns-in-Some-piece-clause-size c s rest e =
    let same =
    some_is (s, rest) (c.in-Some-piece.piece.now, ahead c.piece.new.self) (sym e ∙ string_piece c.args.is_text
    c.args.len c.in-Some.len (ahead c.args.self.now) c.in-Some.is ∙ c.in-Some-piece.ensures.reads.reads) in
    ap (λ (q : List ℕ × List ℕ). length q.0) same

pub returns-in-None-piece-clause-decoded : goal.returns-in-None-piece-clause-decoded
returns-in-None-piece-clause-decoded c = piece_heads c.args.is_text c.args.len c.in-Some.len (ahead c.args.self.now)
    c.args.self.now c.piece.new.self c.in-Some.is c.in-None-piece.ensures.uncounted

pub returns-in-Some-piece-clause-decoded : goal.returns-in-Some-piece-clause-decoded
returns-in-Some-piece-clause-decoded c = piece_heads c.args.is_text c.args.len c.in-Some.len (ahead c.args.self.now)
    c.args.self.now c.piece.new.self c.in-Some.is c.in-Some-piece.ensures.uncounted
