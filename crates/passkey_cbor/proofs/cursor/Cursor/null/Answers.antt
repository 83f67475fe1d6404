use Rattle.std.proofs.Common.{rules}
use Rattle.passkey_cbor.proofs.items.Null.{skips_null, null_passed, not_null}
use Rattle.passkey_cbor.proofs.cursor.Cursor.null.Goals as goal

pub returns-then-begins_null-clause-passes : goal.returns-then-begins_null-clause-passes
returns-then-begins_null-clause-passes c =
    skips_null c.args.self.now c.skip.new.self c.skip.result c.if-begins_null.ensures.is c.skip.ensures.front

pub returns-then-begins_null-clause-at : goal.returns-then-begins_null-clause-at
returns-then-begins_null-clause-at c = λ x to l.
    null_passed x to c.args.self.now c.skip.new.self c.skip.result c.if-begins_null.ensures.is l (c.skip.ensures.passes x to l)

pub returns-clause-at : goal.returns-clause-at
returns-clause-at c = λ x to l.
    (not_null x to c.args.self.now c.if-begins_null.ensures.is l, search rules)
