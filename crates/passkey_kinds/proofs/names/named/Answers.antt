use Rattle.passkey_kinds.proofs.Steps.{true, looks_names}
use Rattle.passkey_kinds.proofs.names.named.Goals as goal
use Rattle.passkey_webauthn.specs.NameLaws.{value_of_name}

pub returns-in-None-clause-named : goal.returns-in-None-clause-named
returns-in-None-clause-named g c = λ s told.
    rw (c.at_index.ensures, c.name_of.ensures.name s told, c.names_of-names.ensures, c.table-table.ensures)
    (value_of_name s g.T.EnumNames.table)

pub returns-in-None-clause-looks : goal.returns-in-None-clause-looks
returns-in-None-clause-looks g c =
    looks_names c.name_of.ensures.rises true _ c.requires.region c.name_of.ensures.looks
