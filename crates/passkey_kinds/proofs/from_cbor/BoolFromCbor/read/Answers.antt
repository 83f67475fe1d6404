use Rattle.passkey_kinds.proofs.Steps.{refl, truth_from, truth_scalar, scalar_decodes, scalar_ends}
use Rattle.passkey_kinds.proofs.from_cbor.BoolFromCbor.read.Goals as goal

pub returns-clause-reads : goal.returns-clause-reads
returns-clause-reads c = λ i to l.
    scalar_decodes truth_from i refl (truth_scalar i) (c.read_scalar.ensures.reads i to l) c.truth_of.ensures

pub returns-clause-further : goal.returns-clause-further
returns-clause-further c =
    scalar_ends _ truth_from _ c.truth_of.result refl c.truth_of.ensures c.read_scalar.ensures.further
