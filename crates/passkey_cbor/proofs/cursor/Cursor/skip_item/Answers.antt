use Rattle.std.proofs.Common.{subst, arith}
use Rattle.std.proofs.lemmas.List.{take_rest}
use Rattle.passkey_cbor.specs.LeadingItem.{max_depth}
use Rattle.passkey_cbor.specs.Leaf.{IsLeafLen}
use Rattle.passkey_cbor.proofs.skipping.Advancing.{leaf_advances}
use Rattle.passkey_cbor.proofs.cursor.Cursor.skip_item.Goals as goal

pub returns-then-len-gt0 : goal.returns-then-len-gt0
returns-then-len-gt0 c =
    let some = c.if-len-gt0.true in
    leaf_advances max_depth c.leaf_len-len.result c.args.self.now c.pass_leaf.new.self c.requires (omega arith)
    (rw (← c.self.view_is) (subst (λ s. IsLeafLen s c.leaf_len-len.result)
    (take_rest c.self.inside.bytes.now c.self.inside.place) (c.leaf_len-len.ensures.leaf (omega arith))))
    c.pass_leaf.ensures.passed c.pass_leaf.ensures.rises
