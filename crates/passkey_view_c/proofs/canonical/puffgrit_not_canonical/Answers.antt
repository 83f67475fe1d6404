use Rattle.std.proofs.Common.{◌∙◌, refl}
use Rattle.passkey_view_c.proofs.canonical.puffgrit_not_canonical.Goals as goal
use Rattle.passkey_view_c.specs.Canonical.FindsBreach.{breach}

pub returns-in-Some : goal.returns-in-Some
returns-in-Some c = breach c.in-Some.found (rw c.in-Some.is at c.not_canonical.ensures) (c.from.ensures ∙ c.number.ensures) refl
