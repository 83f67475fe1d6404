use Rattle.passkey_cbor.proofs.items.Leaves.{headed_two}
use Rattle.passkey_cbor.proofs.leaf.two_byte_len.Goals as goal

pub returns-in-Some-with_byte : goal.returns-in-Some-with_byte
returns-in-Some-with_byte c = record {
  leaf = λ some.
      let parts = c.in-Some.parts in
      c.len_with.ensures.leaf some _ (headed_two c.args.initial parts.0.now c.args.bytes.now parts.1.now
      c.in-Some-with_byte.head c.in-Some.ensures.cases.0 (c.in-Some-with_byte.ensures parts.1.now));
}
