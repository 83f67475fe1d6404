use Rattle.std.proofs.Common.{arith, ◌-◌}
use Rattle.passkey_cbor_text.proofs.Ordering.{comes_before, goes_before, is_there}
use Rattle.passkey_cbor_text.proofs.values.order.place.Goals as goal

pub returns-in-Less-clause-is : goal.returns-in-Less-clause-is
returns-in-Less-clause-is c = comes_before c.args.members.now c.args.encoding.now c.loop-left.left (c.loop-left.left - 1)
    c.index-members-left.result c.in_ok-key_order.field-0 _ (omega arith) (omega arith)
    c.in_ok-key_order.ensures c.loop-left.invariant.1 c.in-Less.is

pub returns-in-Equal-clause-is : goal.returns-in-Equal-clause-is
returns-in-Equal-clause-is c = is_there c.args.members.now c.args.encoding.now c.loop-left.left (c.loop-left.left - 1)
    c.index-members-left.result c.in_ok-key_order.field-0 _ (omega arith) (omega arith)
    c.in_ok-key_order.ensures c.loop-left.invariant.1 c.in-Equal.is

pub loop-left-preserved : goal.loop-left-preserved
loop-left-preserved c = (
  omega arith,
  goes_before c.args.members.now c.args.encoding.now c.loop-left.left (c.loop-left.left - 1)
      c.index-members-left.result c.in_ok-key_order.field-0 _ (omega arith) (omega arith)
      c.in_ok-key_order.ensures c.loop-left.invariant.1 c.in-Greater.is,
)
