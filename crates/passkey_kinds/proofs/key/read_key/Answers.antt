use Rattle.passkey_kinds.proofs.key.read_key.Goals as goal

pub returns-then-is_numbered-clause-names : goal.returns-then-is_numbered-clause-names
returns-then-is_numbered-clause-names c = rw c.if-is_numbered.true c.read_numbered.ensures.names

pub returns-else-is_numbered-clause-names : goal.returns-else-is_numbered-clause-names
returns-else-is_numbered-clause-names c = rw c.if-is_numbered.false c.read_named.ensures.names
