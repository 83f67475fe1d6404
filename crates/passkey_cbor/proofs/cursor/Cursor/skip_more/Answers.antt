use Rattle.std.proofs.Common.{◌≡◌, suc, ◌-◌, arith}
use Rattle.passkey_cbor.proofs.skipping.Advancing.{leaves_end, leaves_part, items_part, pairs_part, value_part}
use Rattle.passkey_cbor.proofs.cursor.Cursor.skip_more.Goals as goal

pub returns-then-left-eq0 : goal.returns-then-left-eq0
returns-then-left-eq0 c = rw c.in-Items.is (leaves_end c.in-Items.left c.skip_leaves-left.result c.args.self.now
    c.skip_leaves-left.new.self c.if-left-eq0.true c.skip_leaves-left.ensures c.args.list.now)

pub skip_inner_part-requires : goal.skip_inner_part-requires
skip_inner_part-requires c = (c.skip_leaves-left.ensures 0).passed.within

pub returns-else-left-eq0 : goal.returns-else-left-eq0
returns-else-left-eq0 c =
    let more = c.skip_leaves-left.result in
    let one : more ≡ suc (more - 1) = omega (arith, c.if-left-eq0.false) in
    rw c.in-Items.is (leaves_part c.in-Items.left more (more - 1) c.args.self.now c.skip_leaves-left.new.self
    c.skip_inner_part.new.self c.skip_inner_part.result one c.skip_leaves-left.ensures c.skip_inner_part.ensures)

pub returns-in-ItemsToBreak : goal.returns-in-ItemsToBreak
returns-in-ItemsToBreak c = rw c.in-ItemsToBreak.is
    (items_part c.args.self.now c.skip_part.new.self c.skip_part.result c.requires c.skip_part.ensures)

pub returns-in-PairsToBreak : goal.returns-in-PairsToBreak
returns-in-PairsToBreak c = rw c.in-PairsToBreak.is (pairs_part c.args.self.now c.skip_part-in-PairsToBreak.new.self
    c.skip_part-in-PairsToBreak.result c.requires c.skip_part-in-PairsToBreak.ensures)

pub returns-in-ValueToBreak : goal.returns-in-ValueToBreak
returns-in-ValueToBreak c = rw c.in-ValueToBreak.is (value_part c.args.self.now
    c.skip_inner_part-in-ValueToBreak.new.self c.skip_inner_part-in-ValueToBreak.result c.requires
    c.skip_inner_part-in-ValueToBreak.ensures)
