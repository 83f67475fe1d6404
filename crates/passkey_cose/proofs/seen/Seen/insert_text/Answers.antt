use Rattle.std.proofs.Common.{refl}
use Rattle.passkey_cose.proofs.SeenNames.{text_more}
use Rattle.passkey_cose.proofs.seen.Seen.insert_text.Goals as goal

pub returns-in-Ok-clause-held : goal.returns-in-Ok-clause-held
returns-in-Ok-clause-held c =
    λ names held whole. text_more c.args.self.now (record c.args.self.now { texts = c.insert.new.self }) c.args.text
    names c.in-Ok.ensures.updates refl held
