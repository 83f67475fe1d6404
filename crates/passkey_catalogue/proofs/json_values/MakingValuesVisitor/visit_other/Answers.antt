use Rattle.passkey_catalogue.proofs.json_values.MakingValuesVisitor.visit_other.Goals as goal

pub returns-in-Key : goal.returns-in-Key
returns-in-Key c = rw c.in-Key.is (c.key_values.ensures.ok, c.key_values.ensures.err)

pub returns-in-Statement : goal.returns-in-Statement
returns-in-Statement c = rw c.in-Statement.is (c.statement_values.ensures.ok, c.statement_values.ensures.err)

pub returns-in-CertInfo : goal.returns-in-CertInfo
returns-in-CertInfo c = rw c.in-CertInfo.is (c.cert_info_values.ensures.ok, c.cert_info_values.ensures.err)

pub returns-in-PubArea : goal.returns-in-PubArea
returns-in-PubArea c = rw c.in-PubArea.is (c.pub_area_values.ensures.ok, c.pub_area_values.ensures.err)

pub returns-in-Json : goal.returns-in-Json
returns-in-Json c = rw c.in-Json.is (c.json_values.ensures.ok, c.json_values.ensures.err)
