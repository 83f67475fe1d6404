use Rattle.passkey_kinds.proofs.Steps.{false, looks_names}
use Rattle.passkey_kinds.proofs.key.with_byte_chunks.Goals as goal

pub returns-clause-looks : goal.returns-clause-looks
returns-clause-looks c =
    looks_names c.name_of.ensures.rises false _ c.requires.region c.name_of.ensures.looks
