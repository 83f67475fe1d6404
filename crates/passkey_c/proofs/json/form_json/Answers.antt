use Rattle.std.proofs.Common.{IfOk, subst, sym}
use Rattle.passkey_c.proofs.json.form_json.Goals as goal
use Rattle.passkey_c.specs.Json.{IsFormJson}
use Rattle.passkey_catalogue.specs.Rewriting.{EncodesForm, IsFormLength}
use Rattle.passkey_catalogue.specs.declared.form.Form.{Form}

-- The JSON of a JSON text is its encoding.
pub returns-in-Json-clause-ok : goal.returns-in-Json-clause-ok
returns-in-Json-clause-ok c =
    let input = c.args.input.now in
    subst (λ (f : Form). IfOk c.encode_form.result (λ made. IsFormJson f input made.0.items made.1)) (sym c.in-Json.is)
    (subst (λ (f : Form). IfOk c.encode_form.result (λ made. EncodesForm f input made.0.items × IsFormLength f input made.1))
    c.in-Json.is c.encode_form.ensures.ok)
