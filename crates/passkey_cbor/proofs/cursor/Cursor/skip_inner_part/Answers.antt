use Rattle.passkey_cbor.proofs.skipping.Advancing.{break_failed}
use Rattle.passkey_cbor.proofs.cursor.Cursor.skip_inner_part.Goals as goal

pub returns-in-End : goal.returns-in-End
returns-in-End c levels = break_failed levels c.args.self.now c.skip_part.new.self c.in-End.ensures
