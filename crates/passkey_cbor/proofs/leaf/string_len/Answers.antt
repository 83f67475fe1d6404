use Rattle.std.proofs.Common.{◌+◌, ap, refl}
use Rattle.passkey_cbor.specs.Lent.{string_head}
use Rattle.passkey_cbor.proofs.items.Leaves.{piece_there, string_leaf}
use Rattle.passkey_cbor.proofs.leaf.string_len.Goals as goal

pub returns : goal.returns
returns c = record {
  leaf = λ some bytes e.
      let rest = c.args.rest.now in
      let len = c.in-Some.len in
      string_leaf bytes rest c.args.head_len c.args.is_text len (c.args.head_len + len)
      (string_head c.args.is_text c.args.len) e (ap (string_head c.args.is_text) c.in-Some.is)
      (piece_there c.args.is_text len rest c.if-rest-size.false
      (let allowed = c.is_allowed.ensures in let found = c.if-not-is_allowed.false in cc)) refl;
}
