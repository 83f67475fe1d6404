use Rattle.passkey_view_c.proofs.Writing.{both_appended}
use Rattle.passkey_view_c.proofs.writer.put_item.Goals as goal

pub returns : goal.returns
returns c =
    both_appended _ _ _ _ _ _ _ _ (both_appended _ _ _ _ _ _ _ _ c.append.ensures c.append-2.ensures) c.append-3.ensures
