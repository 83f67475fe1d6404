use Rattle.std.proofs.Math.Facts.{to_z-of_z}
use Rattle.passkey_view_c.proofs.Outputs.{writes}
use Rattle.passkey_view_c.proofs.item.puffgrit_member.Goals as goal

pub returns : goal.returns
returns c = writes _ _ _ _ _ _ (rw (to_z-of_z c.ranges.key) at c.member_at.ensures) c.fill.ensures
