use Rattle.std.proofs.Common.{◌∙◌}
use Rattle.passkey_cbor.specs.View.{item_of}
use Rattle.passkey_cbor_text.proofs.Escapes.{escape_made}
use Rattle.passkey_cbor_text.proofs.values.exact.escape_of_item.Goals as goal

pub returns : goal.returns
returns c = escape_made c.leading_item_is_found.ensures c.written_is_leading_item.ensures (item_of c.args.value.now)
    c.as_slice.result.now c.escape_encoding.result (c.as_slice.ensures.value ∙ c.in_ok-encoding.ensures.written)
    c.escape_encoding.ensures.fits c.in_ok-encoding.ensures.writable c.requires c.escape_encoding.ensures.parsed
