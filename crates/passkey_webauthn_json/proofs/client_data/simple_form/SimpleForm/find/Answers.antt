use Rattle.std.proofs.Common.{refl, sym}
use Rattle.passkey_webauthn_json.proofs.client_data.simple_form.SimpleForm.find.Goals as goal

pub returns : goal.returns
returns c = record {
  type_name = c.in_ok-ty.ty.now;
  named = sym c.in_ok-ty-2.ensures;
  same = rw (
    c.in_ok-ty.ensures.parts,
    c.in_ok-challenge.ensures.parts,
    c.in_ok-origin.ensures.parts,
    c.in_ok-cross_origin.ensures,
  ) refl;
  plain_type = c.in_ok-ty.ensures.plain;
  plain_challenge = c.in_ok-challenge.ensures.plain;
  plain_origin = c.in_ok-origin.ensures.plain;
}
