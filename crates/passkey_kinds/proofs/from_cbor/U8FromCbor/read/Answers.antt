use Rattle.passkey_kinds.proofs.Steps.{refl, number_from, below_scalar, scalar_decodes, scalar_ends}
use Rattle.passkey_kinds.proofs.from_cbor.U8FromCbor.read.Goals as goal

pub returns-clause-reads : goal.returns-clause-reads
returns-clause-reads c = λ i to l.
    scalar_decodes (number_from 256) i refl (below_scalar 256 i) (c.read_scalar.ensures.reads i to l) c.byte.ensures

pub returns-clause-further : goal.returns-clause-further
returns-clause-further c =
    scalar_ends _ (number_from 256) _ c.byte.result refl c.byte.ensures c.read_scalar.ensures.further
