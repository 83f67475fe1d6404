use Rattle.std.proofs.Common.{◌≡◌, IfOk, subst}
use Rattle.passkey_attestation.proofs.Views.{elements_seen}
use Rattle.passkey_attestation.proofs.statement.AttestationStatement.to_value.Goals as goal
use Rattle.passkey_kinds.specs.Words.{Item, item_of}

pub returns-in-Compound-clause-tree : goal.returns-in-Compound-clause-tree
returns-in-Compound-clause-tree c =
    rw c.in-Compound.is (subst (λ (t : Item). IfOk c.to_value-in-Compound.result (λ v. item_of v ≡ t))
    (elements_seen c.in-Compound.elements) c.to_value-in-Compound.ensures.tree)
