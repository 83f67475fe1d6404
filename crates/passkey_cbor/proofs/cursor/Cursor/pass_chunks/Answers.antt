use Rattle.std.proofs.Common.{None, Some, refl, arith}
use Rattle.passkey_cbor.specs.HeadsDecoded.{chunk_heads}
use Rattle.passkey_cbor.specs.Reading.{chunk, end}
use Rattle.passkey_cbor.specs.CursorState.{ahead, break_heads}
use Rattle.passkey_cbor.proofs.strings.Chunks.{measures_start, measures_on, measured, chunk_passed, chunks_passed, chunks_missed}
use Rattle.passkey_cbor.proofs.heads.HeadsDecoded.{tallies_start, tallies_on, tallies_end, tallies_stuck, shorter}
use Rattle.passkey_cbor.proofs.skipping.Skipping.{goes_end, goes_malformed, goes_stuck}
use Rattle.passkey_cbor.proofs.cursor.Cursor.pass_chunks.Goals as goal

pub loop-head-init : goal.loop-head-init
loop-head-init c = (
  measures_start c.args.is_text c.args.self.now c.requires,
  tallies_start (chunk c.args.is_text) chunk_heads None c.args.self.now,
  refl,
)

pub returns-in-Malformed-clause-skips : goal.returns-in-Malformed-clause-skips
returns-in-Malformed-clause-skips c = chunks_missed c.args.is_text c.args.self.now c.step.new.self c.requires
    (goes_malformed (chunk c.args.is_text) _ c.loop-head.left c.args.self.now c.loop-head.self c.step.new.self
    c.loop-head.invariant.0.goes c.in-Malformed.ensures.reads)

pub returns-in-End-clause-skips : goal.returns-in-End-clause-skips
returns-in-End-clause-skips c = chunks_passed c.args.is_text c.args.self.now c.step.new.self c.requires
    (goes_end (chunk c.args.is_text) _ c.loop-head.left c.args.self.now c.loop-head.self c.step.new.self
    c.loop-head.invariant.0.goes c.in-End.ensures.reads)

pub returns-in-End-clause-size : goal.returns-in-End-clause-size
returns-in-End-clause-size c = measured c.args.is_text c.loop-head.left c.args.self.now c.loop-head.self
    c.step.new.self c.loop-head.size c.loop-head.invariant.0 c.in-End.ensures.reads

pub returns-in-None-clause-skips : goal.returns-in-None-clause-skips
returns-in-None-clause-skips c =
    chunks_missed c.args.is_text c.args.self.now c.chunk.new.self c.requires (goes_stuck (chunk c.args.is_text) _
    c.loop-head.left c.step.new.left c.args.self.now c.loop-head.self c.step.new.self c.chunk.new.self
    c.in-Element.head c.loop-head.invariant.0.goes c.in-Element.ensures.reads c.in-None.ensures.reads)

pub overflow_add-size : goal.overflow_add-size
overflow_add-size c = omega (
  arith,
  c.loop-head.invariant.0.fits,
  c.in-Element.ensures.reads.passed.forward,
  chunk_passed c.args.is_text c.step.new.self c.chunk.new.self c.in-Element.head c.in-Some.piece.now
      c.in-Some.ensures.reads,
  c.in-Some.ensures.fits,
)

pub loop-head-preserved : goal.loop-head-preserved
loop-head-preserved c =
    let r = c.in-Element.ensures.reads in
    let s = c.in-Some.ensures.reads in (
      measures_on c.args.is_text c.loop-head.left c.step.new.left c.args.self.now c.loop-head.self c.step.new.self
          c.chunk.new.self c.in-Element.head c.loop-head.size c.in-Some.piece.now c.loop-head.invariant.0 r s,
      tallies_on c.loop-head.invariant.1 c.step.new.left c.step.new.self c.chunk.new.self c.in-Element.head
          c.in-Some.piece.now r s.reads c.in-Some.ensures.uncounted
          (shorter c.loop-head.self c.step.new.self c.chunk.new.self r.passed r.further s.passed),
      (c.in-Element.ensures.counted c.loop-head.invariant.2).0,
    )

pub returns-in-Malformed-clause-decoded : goal.returns-in-Malformed-clause-decoded
returns-in-Malformed-clause-decoded c =
    tallies_end c.loop-head.invariant.1 c.step.new.self 1 None c.in-Malformed.ensures.reads.reads
    (c.in-Malformed.ensures.counted c.loop-head.invariant.2).1 (λ fuel. refl)

pub returns-in-End-clause-decoded : goal.returns-in-End-clause-decoded
returns-in-End-clause-decoded c =
    tallies_end c.loop-head.invariant.1 c.step.new.self (break_heads c.loop-head.left) (Some (end (ahead c.step.new.self)))
    c.in-End.ensures.reads.reads c.in-End.ensures.reads.counted (λ fuel. refl)

pub returns-in-None-clause-decoded : goal.returns-in-None-clause-decoded
returns-in-None-clause-decoded c =
    tallies_stuck c.loop-head.invariant.1 c.step.new.left c.step.new.self c.chunk.new.self c.in-Element.head
    c.in-Element.ensures.reads c.in-None.ensures.reads.reads c.in-None.ensures.uncounted
