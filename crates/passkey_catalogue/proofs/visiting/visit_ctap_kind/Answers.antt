use Rattle.passkey_catalogue.proofs.visiting.visit_ctap_kind.Goals as goal

-- The call's clause is that of the kind. These messages are of a generic type, and the search doesn't see that their tables are
-- one.
pub returns-in-MakeUnsigned : goal.returns-in-MakeUnsigned
returns-in-MakeUnsigned g c = rw c.in-MakeUnsigned.is c.visit_message-in-MakeUnsigned.ensures

pub returns-in-GetUnsigned : goal.returns-in-GetUnsigned
returns-in-GetUnsigned g c = rw c.in-GetUnsigned.is c.visit_message-in-GetUnsigned.ensures
