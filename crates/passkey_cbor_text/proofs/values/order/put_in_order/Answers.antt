use Rattle.std.proofs.Common.{◌∙◌}
use Rattle.passkey_cbor.specs.View.{item_of}
use Rattle.passkey_cbor_text.proofs.Encodings.{encoding_long}
use Rattle.passkey_cbor_text.proofs.Ordering.{added}
use Rattle.passkey_cbor_text.proofs.values.order.put_in_order.Goals as goal

pub place-requires : goal.place-requires
place-requires c = encoding_long (item_of c.args.member.0) c.as_slice.result.now
    (c.as_slice.ensures.value ∙ c.in_ok-encoding.ensures.written)

pub returns-in_ok-insert-in-Some : goal.returns-in_ok-insert-in-Some
returns-in_ok-insert-in-Some c = added c.args.members.now.items c.deref.result.now c.insert.new.self.items
    c.args.member c.as_slice.result.now c.in-Some.place c.in_ok-place.field-0 c.deref.ensures.value
    (c.as_slice.ensures.value ∙ c.in_ok-encoding.ensures.written) c.in_ok-place.ensures.is c.in-Some.is
    c.in_ok-insert-in-Some.ensures.items
