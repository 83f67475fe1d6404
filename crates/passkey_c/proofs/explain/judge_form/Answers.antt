use Rattle.std.proofs.Common.{Option, IfOk, length, subst}
use Rattle.passkey_c.proofs.explain.judge_form.Goals as goal
use Rattle.passkey_c.specs.Explaining.{AcceptsStructure, IsVerdict, TellsStructure}
use Rattle.passkey_tpm.specs.declared.refusal.TpmRefusal.{TpmRefusal}

pub returns-in-Statement : goal.returns-in-Statement
returns-in-Statement c = rw c.in-Statement.is c.judge_statement.ensures

pub returns-in-CertInfo : goal.returns-in-CertInfo
returns-in-CertInfo c =
    rw c.in-CertInfo.is (subst (λ (found : Option TpmRefusal). IfOk c.judge_structure.result
    (IsVerdict (AcceptsStructure found (length c.args.input.now)) (TellsStructure found)))
    c.explain_cert_info.ensures.refusal c.judge_structure.ensures)

pub returns-in-PubArea : goal.returns-in-PubArea
returns-in-PubArea c =
    rw c.in-PubArea.is (subst (λ (found : Option TpmRefusal). IfOk c.judge_structure-in-PubArea.result
    (IsVerdict (AcceptsStructure found (length c.args.input.now)) (TellsStructure found)))
    c.explain_pub_area.ensures.refusal c.judge_structure-in-PubArea.ensures)

pub returns-in-Json : goal.returns-in-Json
returns-in-Json c = rw c.in-Json.is c.judge_json.ensures
