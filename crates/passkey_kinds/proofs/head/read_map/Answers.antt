use Rattle.passkey_kinds.proofs.Steps.{head_moves, map_flat, head_spends, head_map, map_opened, parts_open}
use Rattle.passkey_kinds.proofs.head.read_map.Goals as goal

pub returns-clause-opens : goal.returns-clause-opens
returns-clause-opens c = λ i to l.
    parts_open _ _ head_map map_opened _ i to c.head.new.self _ c.map_len.ensures (c.head.ensures.opens i to l)

pub returns-clause-spends : goal.returns-clause-spends
returns-clause-spends c = λ i to l. head_spends _ _ _ i to c.head.ensures.found (c.head.ensures.opens i to l) l

pub returns-clause-further : goal.returns-clause-further
returns-clause-further c = head_moves _ _ _ _ c.map_len.result map_flat c.head.ensures.found c.map_len.ensures
