use Rattle.passkey_kinds.proofs.Steps.{head_moves, array_flat, head_spends, head_array, array_opened, parts_open}
use Rattle.passkey_kinds.proofs.head.read_array.Goals as goal

pub returns-clause-opens : goal.returns-clause-opens
returns-clause-opens c = λ i to l.
    parts_open _ _ head_array array_opened _ i to c.head.new.self _ c.array_len.ensures (c.head.ensures.opens i to l)

pub returns-clause-spends : goal.returns-clause-spends
returns-clause-spends c = λ i to l. head_spends _ _ _ i to c.head.ensures.found (c.head.ensures.opens i to l) l

pub returns-clause-further : goal.returns-clause-further
returns-clause-further c = head_moves _ _ _ _ c.array_len.result array_flat c.head.ensures.found c.array_len.ensures
