use Rattle.std.proofs.Common.{◌≡◌, rules, string_bytes, true}
use Rattle.std.specs.List.{list_all}
use Rattle.passkey_webauthn_json.proofs.Plain.{plain_string}
use Rattle.passkey_webauthn_json.proofs.client_data.client_data_text.put_string.Goals as goal
use Rattle.passkey_webauthn_json.specs.client_data.ClientDataText.{is_plain}

pub returns : goal.returns
returns c =
    let plain : list_all is_plain c.args.value.now ≡ true = search rules in
    rw (c.in_ok-push_str-3.ensures.bytes, c.in_ok-push_str-2.ensures.bytes, c.in_ok-push_str.ensures.bytes)
    (plain_string (string_bytes c.args.text.now) c.args.value.now plain)
