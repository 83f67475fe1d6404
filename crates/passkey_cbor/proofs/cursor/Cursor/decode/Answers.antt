use Rattle.std.proofs.Common.{arith}
use Rattle.passkey_cbor.proofs.skipping.Walks.{short_read}
use Rattle.passkey_cbor.proofs.cursor.Cursor.decode.Goals as goal

pub pass_leaf-requires : goal.pass_leaf-requires
pass_leaf-requires c = omega (arith, c.in-Some.ensures.within)

pub returns-in-Some-clause-reads : goal.returns-in-Some-clause-reads
returns-in-Some-clause-reads c =
    short_read c.args.self.now c.pass_leaf.new.self c.in-Some.head c.short_head.ensures.placed
    c.in-Some.ensures.within c.in-Some.ensures.reads c.pass_leaf.ensures.passed c.pass_leaf.ensures.rises
