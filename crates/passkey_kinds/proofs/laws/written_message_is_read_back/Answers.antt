use Rattle.passkey_kinds.proofs.Numbered.{messages_back}
use Rattle.passkey_kinds.proofs.laws.written_message_is_read_back.Goals as goal

pub returns : goal.returns
returns g c = messages_back _ _ _ c.written_is_leading_item.ensures c.lawful.ensures.back
