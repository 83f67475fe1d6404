use Rattle.std.proofs.Common.{true, Some, [], subst}
use Rattle.passkey_cbor.specs.Lent.{Region}
use Rattle.passkey_cbor.specs.Pieces.{LendsNoPiece}
use Rattle.passkey_cbor.proofs.strings.Pieces.{region_in_chunks, region_after, break_lent}
use Rattle.passkey_cbor.proofs.text_chunks.TextChunks.next.Goals as goal

pub first_chunk-requires : goal.first_chunk-requires
first_chunk-requires c =
    region_in_chunks true c.self.inside.len c.self.inside.region.now c.in-None.is c.self.invariant

pub invariant_of-self-in-Some-first_chunk : goal.invariant_of-self-in-Some-first_chunk
invariant_of-self-in-Some-first_chunk c =
    region_after true c.self.inside.len c.self.inside.region.now c.in-Some-first_chunk.rest.now
    c.in-Some-first_chunk.piece.now c.in-None.is c.self.invariant c.in-Some-first_chunk.ensures

pub returns-in-None-first_chunk-clause-piece : goal.returns-in-None-first_chunk-clause-piece
returns-in-None-first_chunk-clause-piece c =
    let P : Region → Type 0 = λ r. LendsNoPiece true r (record { len = Some 0; bytes = [] }) in
    subst P c.self.view_is
    (break_lent true c.self.inside.len c.self.inside.region.now c.in-None.is c.in-None-first_chunk.ensures)
