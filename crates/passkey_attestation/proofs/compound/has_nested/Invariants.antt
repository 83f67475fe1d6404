use Rattle.std.proofs.Common.{◌≡◌, drop, map}
use Rattle.passkey_attestation.proofs.compound.has_nested.Given as goal
use Rattle.passkey_attestation.specs.Compound.{has_nested}
use Rattle.passkey_attestation.specs.Statements.{element_parts}

abbrev pub invariant-loop-element : goal.invariant-loop-element
invariant-loop-element l = has_nested (map element_parts l.elements)
    ≡ has_nested (map element_parts (drop l.element-index l.elements))
