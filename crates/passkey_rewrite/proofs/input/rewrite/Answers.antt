use Rattle.passkey_rewrite.proofs.input.rewrite.Goals as goal

-- The call's clause is that of the kind.
pub returns-in-Bytes-clause-ok : goal.returns-in-Bytes-clause-ok
returns-in-Bytes-clause-ok c = rw c.in-Bytes.is c.rewrite_hex.ensures.ok

pub returns-in-Bytes-clause-err : goal.returns-in-Bytes-clause-err
returns-in-Bytes-clause-err c = rw c.in-Bytes.is c.rewrite_hex.ensures.err

pub returns-in-Json-clause-ok : goal.returns-in-Json-clause-ok
returns-in-Json-clause-ok c = rw c.in-Json.is c.rewrite_json.ensures.ok

pub returns-in-Json-clause-err : goal.returns-in-Json-clause-err
returns-in-Json-clause-err c = rw c.in-Json.is c.rewrite_json.ensures.err

pub returns-in-Check-clause-ok : goal.returns-in-Check-clause-ok
returns-in-Check-clause-ok c = rw c.in-Check.is c.check_hex.ensures.ok

pub returns-in-Check-clause-err : goal.returns-in-Check-clause-err
returns-in-Check-clause-err c = rw c.in-Check.is c.check_hex.ensures.err
