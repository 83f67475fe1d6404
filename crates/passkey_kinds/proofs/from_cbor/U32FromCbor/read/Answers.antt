use Rattle.passkey_kinds.proofs.Steps.{◌^◌, refl, number_from, below_scalar, scalar_decodes, scalar_ends}
use Rattle.passkey_kinds.proofs.from_cbor.U32FromCbor.read.Goals as goal

pub returns-clause-reads : goal.returns-clause-reads
returns-clause-reads c = λ i to l.
    scalar_decodes (number_from (2 ^ 32)) i refl (below_scalar (2 ^ 32) i) (c.read_scalar.ensures.reads i to l)
    c.word.ensures

pub returns-clause-further : goal.returns-clause-further
returns-clause-further c =
    scalar_ends _ (number_from (2 ^ 32)) _ c.word.result refl c.word.ensures c.read_scalar.ensures.further
