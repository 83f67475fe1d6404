use Rattle.passkey_cbor.proofs.items.Leaves.{headed_one}
use Rattle.passkey_cbor.proofs.leaf.leaf_len.Goals as goal

pub returns-in-Some-short : goal.returns-in-Some-short
returns-in-Some-short c = record {
  leaf = λ some.
      let parts = c.in-Some.parts in
      c.len_with.ensures.leaf some c.args.bytes.now (headed_one c.args.bytes.now parts.0.now parts.1.now
      c.in-Some-short.head c.in-Some.ensures.cases.0 (c.in-Some-short.ensures parts.1.now));
}
