use Rattle.passkey_kinds.proofs.Steps.{refl, size_from, size_scalar, scalar_decodes, scalar_ends}
use Rattle.passkey_kinds.proofs.size.NonZeroU128FromCbor.read.Goals as goal

pub returns-clause-reads : goal.returns-clause-reads
returns-clause-reads c = λ i to l.
    scalar_decodes size_from i refl (size_scalar i) (c.read_scalar.ensures.reads i to l) c.not_zero.ensures

pub returns-clause-further : goal.returns-clause-further
returns-clause-further c =
    scalar_ends _ size_from _ c.not_zero.result refl c.not_zero.ensures c.read_scalar.ensures.further
