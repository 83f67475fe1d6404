use Rattle.std.proofs.Common.{◌++◌, codes, unwrap_or, false}
use Rattle.passkey_webauthn_json.proofs.Texts.{all_named}
use Rattle.passkey_webauthn_json.proofs.client_data.client_data.CollectedClientData.fixed_text.Goals as goal
use Rattle.passkey_webauthn_json.specs.client_data.ClientDataType.{client_data_type_name}
use Rattle.serde_json.specs.Data.{boolean, string}
use Rattle.serde_json.specs.Written.{compact_text}

pub returns : goal.returns
returns g c =
    let x = c.args.self.now in
    rw (
      c.in_ok-push_str.ensures.bytes,
      c.truth_text.ensures,
      c.unwrap_or.ensures,
      c.in_ok-put_name-3.ensures,
      c.in_ok-put_string-3.ensures,
      c.in_ok-put_name-2.ensures,
      c.in_ok-put_string-2.ensures,
      c.in_ok-put_name.ensures,
      c.in_ok-put_string.ensures,
      c.in_ok-text.ensures.ok,
      c.name.ensures,
      c.as_str.ensures.same,
      c.as_str-2.ensures.same,
    ) (all_named (codes "{\"type\":" ++ compact_text (string (client_data_type_name x.ty))) (string x.challenge)
    (string x.origin) (boolean (unwrap_or x.cross_origin false)))
