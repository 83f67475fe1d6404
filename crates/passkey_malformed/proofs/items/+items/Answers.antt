use Rattle.std.proofs.Common.{◌≡◌, suc, true, false, sym, arith}
use Rattle.passkey_malformed.specs.Stops.{at_head, at_stray, in_string, too_deep, in_list, in_tag}
use Rattle.passkey_malformed.proofs.Leading.{unsigned_led, negative_led, simple_led, float_led, string_led, tag_led, array_led, map_led}
use Rattle.passkey_malformed.proofs.Going.{items_start, items_go, items_few}
use Rattle.passkey_malformed.proofs.Lists.{item_long}
use Rattle.passkey_malformed.proofs.Judged.{judged, headed, nests_array, nests_map, nests_tag}
use Rattle.passkey_malformed.proofs.items.+items.Goals as goal

pub after_item-returns-in-Err : goal.after_item-returns-in-Err
after_item-returns-in-Err t c = at_head c.in-Err.ensures.1

pub after_item-returns-in-Unsigned : goal.after_item-returns-in-Unsigned
after_item-returns-in-Unsigned t c =
    unsigned_led c.args.levels c.args.bytes.now c.in-Ok.found.1.now (λ i. omega (arith, c.type_inv.bytes i)) _
    (headed _ _ c.in-Unsigned.is c.in-Ok.ensures)

pub after_item-returns-in-Negative : goal.after_item-returns-in-Negative
after_item-returns-in-Negative t c =
    negative_led c.args.levels c.args.bytes.now c.in-Ok.found.1.now (λ i. omega (arith, c.type_inv.bytes i)) _
    (headed _ _ c.in-Negative.is c.in-Ok.ensures)

pub after_item-returns-in-Simple : goal.after_item-returns-in-Simple
after_item-returns-in-Simple t c =
    simple_led c.args.levels c.args.bytes.now c.in-Ok.found.1.now (λ i. omega (arith, c.type_inv.bytes i)) _
    (headed _ _ c.in-Simple.is c.in-Ok.ensures)

pub after_item-returns-in-Float : goal.after_item-returns-in-Float
after_item-returns-in-Float t c =
    float_led c.args.levels c.args.bytes.now c.in-Ok.found.1.now (λ i. omega (arith, c.type_inv.bytes i)) _
    (headed _ _ c.in-Float.is c.in-Ok.ensures)

pub after_item-returns-in-Bytes : goal.after_item-returns-in-Bytes
after_item-returns-in-Bytes t c =
    let b = headed _ _ c.in-Bytes.is c.in-Ok.ensures in
    judged c.after_string.result
    (λ rest s. string_led c.args.levels c.args.bytes.now c.in-Ok.found.1.now (λ i. omega (arith, c.type_inv.bytes i))
    false c.in-Bytes.len rest.now b s)
    (λ stop s. in_string false c.in-Bytes.len c.in-Ok.found.1.now b s) c.after_string.ensures

pub after_item-returns-in-Text : goal.after_item-returns-in-Text
after_item-returns-in-Text t c =
    let b = headed _ _ c.in-Text.is c.in-Ok.ensures in
    judged c.after_string-in-Text.result
    (λ rest s. string_led c.args.levels c.args.bytes.now c.in-Ok.found.1.now (λ i. omega (arith, c.type_inv.bytes i))
    true c.in-Text.len rest.now b s)
    (λ stop s. in_string true c.in-Text.len c.in-Ok.found.1.now b s) c.after_string-in-Text.ensures

pub after_item-returns-in-None : goal.after_item-returns-in-None
after_item-returns-in-None t c =
    too_deep c.in-Ok.found.0 c.in-Ok.found.1.now (nests_array c.in-Array.is) c.in-Ok.ensures
    (record {
      none_left = omega (arith, c.in-None.ensures);
      is = c.too_deep.ensures.why;
      there = c.too_deep.ensures.rest;
    })

pub after_item-returns-in-Some : goal.after_item-returns-in-Some
after_item-returns-in-Some t c =
    let b = headed _ _ c.in-Array.is c.in-Ok.ensures in
    let e = c.in-Some.ensures in
    let one : c.args.levels ≡ suc c.in-Some.inner = omega (arith, e.0, e.1) in
    judged c.after_list.result
    (λ rest l. array_led c.args.levels c.args.bytes.now c.in-Ok.found.1.now (λ i. omega (arith, c.type_inv.bytes i))
    c.in-Array.len c.in-Some.inner rest.now one b l)
    (λ stop s.
    in_list false c.in-Array.len c.in-Ok.found.1.now s.here s.items one b s.passed s.wanted s.stop)
    c.after_list.ensures

pub after_item-returns-in-None-checked_sub : goal.after_item-returns-in-None-checked_sub
after_item-returns-in-None-checked_sub t c =
    too_deep c.in-Ok.found.0 c.in-Ok.found.1.now (nests_map c.in-Map.is) c.in-Ok.ensures
    (record {
      none_left = omega (arith, c.in-None-checked_sub.ensures);
      is = c.too_deep-in-None-checked_sub.ensures.why;
      there = c.too_deep-in-None-checked_sub.ensures.rest;
    })

pub after_item-returns-in-Some-checked_sub : goal.after_item-returns-in-Some-checked_sub
after_item-returns-in-Some-checked_sub t c =
    let b = headed _ _ c.in-Map.is c.in-Ok.ensures in
    let e = c.in-Some-checked_sub.ensures in
    let one : c.args.levels ≡ suc c.in-Some-checked_sub.inner = omega (arith, e.0, e.1) in
    judged c.after_list-in-Some-checked_sub.result
    (λ rest l. map_led c.args.levels c.args.bytes.now c.in-Ok.found.1.now (λ i. omega (arith, c.type_inv.bytes i))
    c.in-Map.len c.in-Some-checked_sub.inner rest.now one b l)
    (λ stop s.
    in_list true c.in-Map.len c.in-Ok.found.1.now s.here s.items one b s.passed s.wanted s.stop)
    c.after_list-in-Some-checked_sub.ensures

pub after_item-returns-in-None-checked_sub-2 : goal.after_item-returns-in-None-checked_sub-2
after_item-returns-in-None-checked_sub-2 t c =
    too_deep c.in-Ok.found.0 c.in-Ok.found.1.now (nests_tag c.in-Tag.is) c.in-Ok.ensures
    (record {
      none_left = omega (arith, c.in-None-checked_sub-2.ensures);
      is = c.too_deep-in-None-checked_sub-2.ensures.why;
      there = c.too_deep-in-None-checked_sub-2.ensures.rest;
    })

pub after_item-returns-in-Some-checked_sub-2 : goal.after_item-returns-in-Some-checked_sub-2
after_item-returns-in-Some-checked_sub-2 t c =
    let b = headed _ _ c.in-Tag.is c.in-Ok.ensures in
    let e = c.in-Some-checked_sub-2.ensures in
    let one : c.args.levels ≡ suc c.in-Some-checked_sub-2.inner = omega (arith, e.0, e.1) in
    judged c.after_item.result
    (λ rest l. tag_led c.args.levels c.args.bytes.now c.in-Ok.found.1.now (λ i. omega (arith, c.type_inv.bytes i))
    c.in-Tag.field-0 c.in-Some-checked_sub-2.inner rest.now one b l)
    (λ stop s. in_tag c.in-Tag.field-0 c.in-Ok.found.1.now one b s)
    c.after_item.ensures

pub after_item-returns-in-Break : goal.after_item-returns-in-Break
after_item-returns-in-Break t c = at_stray c.in-Ok.found.1.now (headed _ _ c.in-Break.is c.in-Ok.ensures)

pub after_list-loop-here-init : goal.after_list-loop-here-init
after_list-loop-here-init t c = items_start c.args.is_map c.args.len c.args.levels c.args.bytes.now

pub after_list-overflow_add-passed : goal.after_list-overflow_add-passed
after_list-overflow_add-passed t c =
    let few = items_few (items_go c.loop-here.invariant c.in-Ok.next.now (sym c.loop-here-test.ensures) c.in-Ok.ensures) in
    omega arith

pub after_list-loop-here-smaller : goal.after_list-loop-here-smaller
after_list-loop-here-smaller t c = item_long c.args.levels c.loop-here.here.now c.in-Ok.next.now c.in-Ok.ensures

pub after_list-loop-here-preserved : goal.after_list-loop-here-preserved
after_list-loop-here-preserved t c =
    items_go c.loop-here.invariant c.in-Ok.next.now (sym c.loop-here-test.ensures) c.in-Ok.ensures
