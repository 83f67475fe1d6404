use Rattle.std.proofs.Common.{refl}
use Rattle.std.specs.Prelude.{pos, negsuc}
use Rattle.passkey_cbor.specs.Item.{number}
use Rattle.passkey_cbor.specs.HeadsDecoded.{item_heads_by}
use Rattle.passkey_cbor.specs.Reading.{simple_item, item_by}
use Rattle.passkey_cbor.specs.declared.head.Head.TheVariants as head
use Rattle.passkey_cbor.proofs.items.Leaves.{flat_leaf}
use Rattle.passkey_cbor.proofs.leaf.len_with.Goals as goal

pub returns-in-Unsigned : goal.returns-in-Unsigned
unfolding item_by item_heads_by
returns-in-Unsigned c = record {
  leaf = λ some bytes e.
      let h = c.in-Unsigned in
      flat_leaf bytes c.args.rest.now c.args.head_len c.args.head (head.Unsigned h.field-0)
      (number (pos h.field-0)) e h.is refl (λ inner. refl) (λ inner. refl);
}

pub returns-in-Negative : goal.returns-in-Negative
unfolding item_by item_heads_by
returns-in-Negative c = record {
  leaf = λ some bytes e.
      let h = c.in-Negative in
      flat_leaf bytes c.args.rest.now c.args.head_len c.args.head (head.Negative h.field-0)
      (number (negsuc h.field-0)) e h.is refl (λ inner. refl) (λ inner. refl);
}

pub returns-in-Simple : goal.returns-in-Simple
unfolding item_by item_heads_by
returns-in-Simple c = record {
  leaf = λ some bytes e.
      let h = c.in-Simple in
      flat_leaf bytes c.args.rest.now c.args.head_len c.args.head (head.Simple h.field-0)
      (simple_item h.field-0) e h.is refl (λ inner. refl) (λ inner. refl);
}
