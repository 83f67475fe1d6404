use Rattle.passkey_kinds.proofs.names.read_named.Goals as goal

pub returns-in-None-clause-reads : goal.returns-in-None-clause-reads
returns-in-None-clause-reads g c = rw (← c.in-None.ensures.stays) c.read_other_named.ensures.reads
