use Rattle.std.proofs.Common.{arith, option_map, refl}
use Rattle.passkey_cbor.proofs.items.CanonicalItems.{array_left, map_left, no_head_left, item_left, items_go, items_end, items_stuck, pairs_go, pairs_end, no_key_left, no_value_left, out_of_order, key_is, key_long, is_false}
use Rattle.passkey_cbor.proofs.canonical.+canonical.Goals as goal

pub after_content-returns-in_ok-checked_sub-in-Array : goal.after_content-returns-in_ok-checked_sub-in-Array
after_content-returns-in_ok-checked_sub-in-Array t c =
    array_left c.args.levels c.in_ok-checked_sub-in-Array.field-0 c.in-Array.len c.in_ok-len-in-Array.field-0
    c.args.head c.args.bytes.now (option_map (λ r. r.now) c.after_items.result) c.in-Array.is
    c.in_ok-len-in-Array.was c.in_ok-checked_sub-in-Array.ensures c.after_items.ensures

pub after_content-returns-in_ok-checked_sub-in-Map : goal.after_content-returns-in_ok-checked_sub-in-Map
after_content-returns-in_ok-checked_sub-in-Map t c =
    map_left c.args.levels c.in_ok-checked_sub-in-Map.field-0 c.in-Map.len c.in_ok-len-in-Map.field-0 c.args.head
    c.args.bytes.now (option_map (λ r. r.now) c.after_pairs.result) c.in-Map.is c.in_ok-len-in-Map.was
    c.in_ok-checked_sub-in-Map.ensures c.after_pairs.ensures

pub after_item-returns-in-None : goal.after_item-returns-in-None
after_item-returns-in-None t c = no_head_left c.args.levels c.args.bytes.now c.in-None.ensures

pub after_item-returns-in-Some : goal.after_item-returns-in-Some
after_item-returns-in-Some t c =
    item_left c.args.levels c.in-Some.head c.args.bytes.now c.in-Some.rest.now
    (option_map (λ r. r.now) c.after_content.result) c.in-Some.ensures c.after_content.ensures

pub after_items-returns-in_err-rest : goal.after_items-returns-in_err-rest
after_items-returns-in_err-rest t c =
    rw c.from_residual.ensures (items_stuck c.args.levels c.args.count c.args.bytes.now c.loop-left.left
    c.loop-left.rest.now c.loop-left-test.true c.loop-left.invariant c.in_err-rest.ensures)

pub after_items-loop-left-preserved : goal.after_items-loop-left-preserved
after_items-loop-left-preserved t c =
    items_go c.args.levels c.args.count c.args.bytes.now c.loop-left.left c.loop-left.rest.now c.in_ok-rest.rest.now
    c.loop-left-test.true c.loop-left.invariant c.in_ok-rest.ensures

pub after_items-returns : goal.after_items-returns
after_items-returns t c =
    items_end c.args.levels c.args.count c.args.bytes.now c.loop-left.left c.loop-left.rest.now
    (omega (arith, c.loop-left-test.false)) c.loop-left.invariant

pub after_pairs-returns-in_err-after_key : goal.after_pairs-returns-in_err-after_key
after_pairs-returns-in_err-after_key t c =
    rw c.from_residual.ensures (no_key_left c.args.levels c.args.count c.args.bytes.now c.loop-left.left
    (option_map (λ k. k.now) c.loop-left.before) c.loop-left.rest.now c.loop-left-test.true
    c.loop-left.invariant c.in_err-after_key.ensures)

pub after_pairs-comes_after-requires-clause-key : goal.after_pairs-comes_after-requires-clause-key
after_pairs-comes_after-requires-clause-key t c =
    key_long c.args.levels c.loop-left.rest.now c.in_ok-after_key.after_key.now c.in_ok-after_key.ensures

pub after_pairs-returns-then-not-comes_after : goal.after_pairs-returns-then-not-comes_after
after_pairs-returns-then-not-comes_after t c =
    out_of_order c.args.levels c.args.count c.args.bytes.now c.loop-left.left
    (option_map (λ k. k.now) c.loop-left.before) c.loop-left.rest.now c.in_ok-after_key.after_key.now _
    c.loop-left-test.true c.loop-left.invariant c.in_ok-after_key.ensures
    (key_is c.args.levels c.loop-left.rest.now c.in_ok-after_key.after_key.now c.in_ok-after_key.ensures)
    (λ comes. is_false (c.if-not-comes_after.ensures.1 comes))

pub after_pairs-returns-in_err-rest : goal.after_pairs-returns-in_err-rest
after_pairs-returns-in_err-rest t c =
    rw c.from_residual-in_err-rest.ensures
    (no_value_left c.args.levels c.args.count c.args.bytes.now c.loop-left.left
    (option_map (λ k. k.now) c.loop-left.before) c.loop-left.rest.now c.in_ok-after_key.after_key.now
    c.loop-left-test.true c.loop-left.invariant c.in_ok-after_key.ensures c.in_err-rest.ensures)

pub after_pairs-loop-left-preserved : goal.after_pairs-loop-left-preserved
after_pairs-loop-left-preserved t c =
    pairs_go c.args.levels c.args.count c.args.bytes.now c.loop-left.left
    (option_map (λ k. k.now) c.loop-left.before) c.loop-left.rest.now c.in_ok-after_key.after_key.now
    c.in_ok-rest.rest.now _ c.loop-left-test.true c.loop-left.invariant c.in_ok-after_key.ensures
    (key_is c.args.levels c.loop-left.rest.now c.in_ok-after_key.after_key.now c.in_ok-after_key.ensures)
    (c.if-not-comes_after.ensures.0 refl) c.in_ok-rest.ensures

pub after_pairs-returns : goal.after_pairs-returns
after_pairs-returns t c =
    pairs_end c.args.levels c.args.count c.args.bytes.now c.loop-left.left (option_map (λ k. k.now)
    c.loop-left.before) c.loop-left.rest.now (omega (arith, c.loop-left-test.false)) c.loop-left.invariant
