use Rattle.passkey_attestation.proofs.Statements.{element_ordered}
use Rattle.passkey_attestation.proofs.compound.CompoundElementToCborMap.ordered.Goals as goal
use Rattle.passkey_attestation.specs.Statements.{element_parts}

pub returns : goal.returns
returns c = λ r. element_ordered (element_parts r)
