use Rattle.std.proofs.Common.{◌∙◌, ap, sym}
use Rattle.passkey_webauthn_json.proofs.SimpleForms.{read_simple, simple_value}
use Rattle.passkey_webauthn_json.proofs.client_data.client_data.CollectedClientData.from_simple.Goals as goal
use Rattle.passkey_webauthn_json.specs.client_data.ExtraData.{fixed_alone}
use Rattle.serde_json.specs.Data.{object}
use Rattle.serde_json.specs.Read.{read}

pub returns : goal.returns
returns g c =
    let form = c.in-Some-find.form in
    let simple = c.in-Some-find.ensures in
    let extra = c.in-Some.ensures simple.type_name form.challenge.now form.origin.now form.ty form.cross_origin simple.named in
    record {
      value = object (fixed_alone simple.type_name form.challenge.now form.origin.now form.cross_origin);
      text = (
        c.in-Ok.ensures.cases.1,
        ap read (sym c.in-Ok.ensures.cases.0 ∙ simple.same)
            ∙ read_simple simple.type_name form.challenge.now form.origin.now simple.plain_type simple.plain_challenge
            simple.plain_origin form.cross_origin,
      );
      holds = rw (c.in_ok-from_str.ensures.same, c.in_ok-from_str-2.ensures.same, c.new.ensures.empty)
          (simple_value simple.type_name form.challenge.now form.origin.now form.ty simple.named
          g.E.ClientDataExtra.has g.E.ClientDataExtra.reads c.in-Some.extra_data form.cross_origin extra);
    }
