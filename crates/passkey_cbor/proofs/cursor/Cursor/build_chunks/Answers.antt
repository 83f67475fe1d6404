use Rattle.std.proofs.Common.{◌<◌, length, refl, arith}
use Rattle.std.proofs.lemmas.Result.{err_from_is_err_and}
use Rattle.passkey_cbor.proofs.strings.Chunks.{is_allowed-more, is_allowed-nil, collects_start, collects_on, collects_malformed, collects_no_chunk, collects_full, collects_end, counts_no_step, counts_no_chunk, counts_here, counts_end}
use Rattle.passkey_cbor.proofs.cursor.Cursor.build_chunks.Goals as goal

pub loop-bytes-init : goal.loop-bytes-init
loop-bytes-init c = record {
  unknown = refl;
  collects = collects_start c.args.is_text c.args.self.now _ c.requires c.new-bytes.ensures.items;
  allowed_text = is_allowed-nil c.args.is_text _ c.new-bytes.ensures.items;
}

pub returns-in-Malformed-clause-made : goal.returns-in-Malformed-clause-made
returns-in-Malformed-clause-made c =
    collects_malformed c.args.is_text c.loop-bytes.left c.args.self.now c.loop-bytes.self c.step.new.self
    c.loop-bytes.bytes.items c.loop-bytes.invariant.collects c.in-Malformed.ensures.reads

pub returns-in-End-clause-made : goal.returns-in-End-clause-made
returns-in-End-clause-made c =
    collects_end c.args.is_text c.loop-bytes.left c.args.self.now c.loop-bytes.self c.step.new.self
    c.loop-bytes.bytes c.loop-bytes.invariant.collects c.in-End.ensures.reads

pub returns-in-None-clause-made : goal.returns-in-None-clause-made
returns-in-None-clause-made c =
    collects_no_chunk c.args.is_text c.loop-bytes.left c.step.new.left c.args.self.now c.loop-bytes.self
    c.step.new.self c.chunk.new.self c.in-Element.head c.loop-bytes.bytes.items c.loop-bytes.invariant.collects
    c.in-Element.ensures.reads c.in-None.ensures.reads

pub loop-bytes-preserved : goal.loop-bytes-preserved
loop-bytes-preserved c = record {
  unknown = (c.step.ensures.counted c.loop-bytes.invariant.unknown).0;
  collects = collects_on c.args.is_text c.loop-bytes.left c.step.new.left c.args.self.now c.loop-bytes.self
      c.step.new.self c.chunk.new.self c.in-Element.head c.loop-bytes.bytes.items _ c.in-Some.piece.now
      c.loop-bytes.invariant.collects c.in-Element.ensures.reads c.in-Some.ensures.reads
      c.in_ok-extend_from_slice-in-Some.ensures.items;
  allowed_text = is_allowed-more c.args.is_text c.loop-bytes.bytes.items c.in-Some.piece.now _
      c.in_ok-extend_from_slice-in-Some.ensures.items c.loop-bytes.invariant.allowed_text c.in-Some.ensures.reads.allowed_text;
}

pub returns-in_err-extend_from_slice-in-Some-clause-made : goal.returns-in_err-extend_from_slice-in-Some-clause-made
returns-in_err-extend_from_slice-in-Some-clause-made c =
    let p = err_from_is_err_and c.from_residual.result c.from_residual.ensures.1 in
    let some : 0 < length c.in-Some.piece.now = omega (arith, c.in_err-extend_from_slice-in-Some.ensures.full) in
    rw (p.1, p.2) (collects_full c.args.is_text c.loop-bytes.left c.step.new.left c.args.self.now c.loop-bytes.self
    c.step.new.self c.chunk.new.self c.in-Element.head c.loop-bytes.bytes.items c.in-Some.piece.now
    c.loop-bytes.invariant.collects c.in-Element.ensures.reads c.in-Some.ensures.reads some)

pub returns-in-Malformed-clause-counted : goal.returns-in-Malformed-clause-counted
returns-in-Malformed-clause-counted c = counts_no_step c.args.is_text c.loop-bytes.left c.args.self.now
    c.loop-bytes.self c.step.new.self c.loop-bytes.bytes.items c.loop-bytes.invariant.collects
    c.in-Malformed.ensures.reads (c.step.ensures.counted c.loop-bytes.invariant.unknown).1

pub returns-in-End-clause-counted : goal.returns-in-End-clause-counted
returns-in-End-clause-counted c =
    counts_end c.args.is_text c.loop-bytes.left c.args.self.now c.loop-bytes.self c.step.new.self
    c.loop-bytes.bytes.items c.loop-bytes.invariant.unknown c.loop-bytes.invariant.collects c.in-End.ensures.reads

pub returns-in-None-clause-counted : goal.returns-in-None-clause-counted
returns-in-None-clause-counted c = counts_no_chunk c.args.is_text c.loop-bytes.left c.step.new.left c.args.self.now
    c.loop-bytes.self c.step.new.self c.chunk.new.self c.in-Element.head c.loop-bytes.bytes.items
    c.loop-bytes.invariant.collects c.in-Element.ensures.reads c.in-None.ensures.reads c.chunk.ensures.uncounted

pub returns-in_err-extend_from_slice-in-Some-clause-counted :
    goal.returns-in_err-extend_from_slice-in-Some-clause-counted
returns-in_err-extend_from_slice-in-Some-clause-counted c =
    let p = err_from_is_err_and c.from_residual.result c.from_residual.ensures.1 in
    rw p.1 (counts_here c.args.is_text c.loop-bytes.left c.step.new.left c.args.self.now c.loop-bytes.self
    c.step.new.self c.chunk.new.self c.in-Element.head c.loop-bytes.bytes.items c.in-Some.piece.now
    c.loop-bytes.invariant.collects c.in-Element.ensures.reads c.in-Some.ensures.reads)
