use Rattle.std.proofs.Common.{sym, arith}
use Rattle.passkey_malformed.proofs.Chunks.{chunks_start, chunks_go, chunk_long, chunks_end, chunk_cut, no_chunk, no_chunk_head}
use Rattle.passkey_malformed.proofs.strings.after_chunks.Goals as goal

pub loop-found-init : goal.loop-found-init
loop-found-init c = chunks_start c.args.is_text c.args.bytes.now (λ i. omega (arith, c.type_inv.bytes i))

pub returns-in-Err : goal.returns-in-Err
returns-in-Err c =
    no_chunk_head c.args.is_text c.args.bytes.now c.loop-found.here.now _ _ c.loop-found.invariant c.in-Err.ensures.1

pub returns-in-Break : goal.returns-in-Break
returns-in-Break c =
    chunks_end c.args.is_text c.args.bytes.now _ _ _ c.loop-found.invariant c.in-Ok.ensures c.in-Break.is

pub returns-in-None : goal.returns-in-None
returns-in-None c =
    no_chunk c.args.is_text c.args.bytes.now _ _ _ c.loop-found.invariant c.in-Ok.ensures c.in_default.not-Break
    (sym c.in-None.ensures)

pub loop-found-smaller : goal.loop-found-smaller
loop-found-smaller c =
    chunk_long c.args.is_text c.args.bytes.now _ _ _ c.loop-found.invariant c.in-Ok.ensures _ _
    (sym c.in-Some.ensures) c.in-Ok-after_piece.ensures

pub loop-found-preserved : goal.loop-found-preserved
loop-found-preserved c =
    chunks_go c.args.is_text c.args.bytes.now _ _ _ c.loop-found.invariant c.in-Ok.ensures _ _
    (sym c.in-Some.ensures) c.in-Ok-after_piece.ensures

pub returns-in-Err-after_piece : goal.returns-in-Err-after_piece
returns-in-Err-after_piece c =
    chunk_cut c.args.is_text c.args.bytes.now _ _ _ c.loop-found.invariant c.in-Ok.ensures c.in_default.not-Break _ _ _
    (sym c.in-Some.ensures) c.in-Err-after_piece.ensures
