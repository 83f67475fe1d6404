use Rattle.passkey_kinds.proofs.table_message.AnyMessage.read.Goals as goal

pub returns-clause-reads : goal.returns-clause-reads
returns-clause-reads g c = rw c.is_message.ensures.cost at c.read_message.ensures
