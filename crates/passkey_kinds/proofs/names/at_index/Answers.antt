use Rattle.passkey_kinds.proofs.names.at_index.Goals as goal
use Rattle.passkey_webauthn.specs.NameLaws.{row_missing, row_there}

pub returns-in-Some-get : goal.returns-in-Some-get
returns-in-Some-get g c =
    let there = c.in-Some-get.ensures.lookup in row_there _ _ _ c.in-Some.is _ there.3.0 there.1

pub returns-in-None-get : goal.returns-in-None-get
returns-in-None-get g c = row_missing _ _ _ c.in-Some.is c.in-None-get.ensures.lookup.3
