use Rattle.passkey_cbor.specs.LeadingItem.{max_depth}
use Rattle.passkey_cbor.proofs.skipping.Advancing.{break_failed, list_taken}
use Rattle.passkey_cbor.proofs.cursor.Cursor.skip_other.Goals as goal

pub returns-in-End : goal.returns-in-End
returns-in-End c = break_failed max_depth c.args.self.now c.skip_part.new.self c.in-End.ensures

pub returns-in-Head : goal.returns-in-Head
returns-in-Head c = list_taken 255 c.in-Head.inner c.args.self.now c.skip_part.new.self c.skip_list.new.self
    c.skip_list.result c.in-Head.ensures.1 c.skip_list.ensures
