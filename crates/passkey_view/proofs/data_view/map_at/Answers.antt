use Rattle.std.proofs.Common.{◌∙◌}
use Rattle.passkey_view.proofs.Parts.{same_head}
use Rattle.passkey_view.proofs.data_view.map_at.Goals as goal

pub returns-in-None : goal.returns-in-None
returns-in-None c = λ v m. c.in-None.ensures m.here.0 v.end m.here.1.whole

pub returns-in_default : goal.returns-in_default
returns-in_default c = λ v m.
    c.in_default.not-Map m.left (same_head c.args.bytes.now c.args.offset _ v c.in-Some.ensures m.here ∙ m.headed)
