use Rattle.std.proofs.Common.{length, sym, ap, arith}
use Rattle.passkey_cbor.proofs.items.MapMembers.{lends_item, passed_within, not_passed}
use Rattle.passkey_cbor.proofs.member.pass_item.Goals as goal

pub returns-then-not-skip-clause-lends : goal.returns-then-not-skip-clause-lends
returns-then-not-skip-clause-lends c =
    λ x to l. not_passed to c.args.cursor.now c.skip.new.self (c.if-not-skip.ensures.passes x to l)

pub slice_bounds-result-end : goal.slice_bounds-result-end
slice_bounds-result-end c =
    omega (arith, ap length c.requires, passed_within c.args.cursor.now c.skip.new.self c.if-not-skip.ensures.front)

pub returns-clause-lends : goal.returns-clause-lends
returns-clause-lends c =
    lends_item c.args.bytes.now c.args.cursor.now c.skip.new.self c.skip.result c.place-from.result c.place.result
    (sym c.requires) c.place-from.ensures c.place.ensures c.skip.ensures.passes
