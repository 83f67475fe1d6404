use Rattle.passkey_kinds.proofs.Steps.{refl, scalar_decodes, scalar_ends}
use Rattle.passkey_attestation.proofs.Statements.{signed_scalar}
use Rattle.passkey_attestation.specs.AlgorithmIdentifier.{signed}
use Rattle.passkey_attestation.proofs.algorithm_identifier.AlgorithmIdentifierFromCbor.read.Goals as goal

pub returns-clause-reads : goal.returns-clause-reads
returns-clause-reads c = λ i to l.
    scalar_decodes signed.of i refl (signed_scalar i) (c.read_scalar.ensures.reads i to l) c.identifier.ensures

pub returns-clause-further : goal.returns-clause-further
returns-clause-further c =
    scalar_ends _ signed.of _ c.identifier.result refl c.identifier.ensures c.read_scalar.ensures.further
