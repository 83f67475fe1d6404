use Rattle.passkey_kinds.proofs.key.read_name.Goals as goal

pub returns-in-None-clause-finds : goal.returns-in-None-clause-finds
returns-in-None-clause-finds c = rw (← c.in-None.ensures.stays) c.read_other_name.ensures.finds

pub returns-in-None-clause-other : goal.returns-in-None-clause-other
returns-in-None-clause-other c = rw (← c.in-None.ensures.stays) c.read_other_name.ensures.other

pub returns-in-None-clause-misses : goal.returns-in-None-clause-misses
returns-in-None-clause-misses c = rw (← c.in-None.ensures.stays) c.read_other_name.ensures.misses
