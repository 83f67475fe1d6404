use Rattle.passkey_core.proofs.DataBack.{data_back_exactly}
use Rattle.passkey_core.proofs.laws.written_data_are_read_exactly.Goals as goal

pub returns : goal.returns
returns c = data_back_exactly c.written_is_leading_item.ensures c.written_key_is_read_back.ensures
