use Rattle.passkey_kinds.proofs.Steps.{false, looks_all}
use Rattle.passkey_kinds.proofs.array.filled.Goals as goal

pub returns-then-fill-clause-looks : goal.returns-then-fill-clause-looks
returns-then-fill-clause-looks g c =
    looks_all c.if-fill.ensures.rises false (c.fill.new.into, c.if-fill.ensures.filled) c.if-fill.ensures.looks
