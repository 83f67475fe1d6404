use Rattle.std.proofs.Common.{◌≡◌, drop}
use Rattle.std.specs.List.{list_all}
use Rattle.passkey_webauthn_json.proofs.client_data.client_data_text.is_plain.Given as goal
use Rattle.passkey_webauthn_json.specs.client_data.ClientDataText.{is_plain}

abbrev pub invariant-loop-byte : goal.invariant-loop-byte
invariant-loop-byte l =
    list_all is_plain (drop l.byte-index l.byte-items) ≡ list_all is_plain l.byte-items
