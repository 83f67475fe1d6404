use Rattle.passkey_catalogue.proofs.rewriting.encode_form.Goals as goal

-- The call's clause is that of the form.
pub returns-in-Key-clause-ok : goal.returns-in-Key-clause-ok
returns-in-Key-clause-ok c = rw c.in-Key.is c.rewrite_key.ensures.ok

pub returns-in-Statement-clause-ok : goal.returns-in-Statement-clause-ok
returns-in-Statement-clause-ok c = rw c.in-Statement.is c.rewrite_statement.ensures.ok

pub returns-in-CertInfo-clause-ok : goal.returns-in-CertInfo-clause-ok
returns-in-CertInfo-clause-ok c = rw c.in-CertInfo.is c.rewrite_cert_info.ensures.ok

pub returns-in-PubArea-clause-ok : goal.returns-in-PubArea-clause-ok
returns-in-PubArea-clause-ok c = rw c.in-PubArea.is c.rewrite_pub_area.ensures.ok

pub returns-in-Json-clause-ok : goal.returns-in-Json-clause-ok
returns-in-Json-clause-ok c = rw c.in-Json.is c.encode_json.ensures.ok
