use Rattle.std.proofs.Common.{◌∙◌}
use Rattle.passkey_cbor.specs.View.{item_of}
use Rattle.passkey_cbor_text.proofs.Encodings.{encoding_long}
use Rattle.passkey_cbor_text.proofs.values.order.key_order.Goals as goal

pub ctap2_order-requires-clause-first : goal.ctap2_order-requires-clause-first
ctap2_order-requires-clause-first c =
    encoding_long (item_of c.args.key.now) c.as_slice.result.now (c.as_slice.ensures.value ∙ c.in_ok-own.ensures.written)
