use Rattle.std.proofs.Common.{sym, ap, ℕ, List, Option}
use Rattle.std.specs.Option.{option_or}
use Rattle.passkey_bytes.specs.Encoding.{base64url_bytes}
use Rattle.passkey_cbor.specs.View.{item_of}
use Rattle.passkey_cbor_text.proofs.Gathering.{not_parsed, reads_as}
use Rattle.passkey_cbor_text.specs.values.JsonItem.{bytes_item}
use Rattle.uuid.specs.Text.{parsed}
use Rattle.passkey_cbor_text.proofs.values.leaf.aaguid.Goals as goal

pub returns-in-Err : goal.returns-in-Err
returns-in-Err c =
    let text = c.args.text.now in
    reads_as item_of (bytes_item (base64url_bytes text)) _ c.value_of_base64url.result
    (ap (λ (o : Option (List ℕ)). bytes_item (option_or o (base64url_bytes text)))
    (sym (not_parsed (parsed text) c.try_parse.result _ c.try_parse.ensures.ok.1 c.in-Err.is)))
    c.value_of_base64url.ensures
