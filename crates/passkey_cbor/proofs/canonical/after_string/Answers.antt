use Rattle.std.proofs.Common.{arith, None, Some}
use Rattle.passkey_cbor.proofs.items.CanonicalItems.{string_left}
use Rattle.passkey_cbor.proofs.canonical.after_string.Goals as goal

pub returns-in-None : goal.returns-in-None
returns-in-None c = string_left c.args.is_text c.args.len c.args.bytes.now (λ i. omega (arith, c.type_inv.bytes i))
    None c.in-None.ensures

pub returns-in-Some : goal.returns-in-Some
returns-in-Some c =
    string_left c.args.is_text c.args.len c.args.bytes.now (λ i. omega (arith, c.type_inv.bytes i))
    (Some (c.in-Some.field-0-0.now, c.in-Some.rest.now)) c.in-Some.ensures
