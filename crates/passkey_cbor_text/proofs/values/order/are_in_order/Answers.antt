use Rattle.std.proofs.Common.{◌∙◌, get_or}
use Rattle.passkey_cbor.specs.View.{item_of}
use Rattle.passkey_cbor_text.proofs.Encodings.{encoding_long}
use Rattle.passkey_cbor_text.proofs.values.order.are_in_order.Goals as goal

pub key_order-requires : goal.key_order-requires
key_order-requires c =
    encoding_long (item_of (get_or c.args.members.now c.loop-index.index c.index-members-index.result).0)
    c.as_slice.result.now (c.as_slice.ensures.value ∙ c.in_ok-encoding.ensures.written)
