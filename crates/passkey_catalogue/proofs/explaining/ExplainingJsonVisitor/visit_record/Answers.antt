use Rattle.std.proofs.Common.{refl}
use Rattle.passkey_catalogue.proofs.explaining.ExplainingJsonVisitor.visit_record.Goals as goal

pub returns : goal.returns
returns g c = (c.in-Some.explanation.blame, refl, rw c.in-Some.is at c.in_ok-explanation.ensures)
