use Rattle.std.proofs.Common.{◌∙◌, Some, ap, arith, refl, sym}
use Rattle.passkey_cbor.specs.declared.head.Head.TheVariants as head
use Rattle.passkey_cbor.proofs.items.CanonicalItems.{array_left, item_left, key_is, key_long, map_left}
use Rattle.passkey_malformed.specs.Breaks.{at_head, head_rule, list_rule}
use Rattle.passkey_malformed.proofs.Breaking.{array_broken, barred_by, items_broken, items_done, items_on, key_broken, key_misplaced, map_broken, no_level, pairs_done, pairs_on, value_broken}
use Rattle.passkey_malformed.proofs.Judged.{judged}
use Rattle.passkey_malformed.proofs.canonical.+canonical.Goals as goal

pub after_array-returns-in_default : goal.after_array-returns-in_default
after_array-returns-in_default t c =
    barred_by c.args.levels c.requires (ap (list_rule c.args.levels) c.in_default.is) c.broken.ensures.rule
    c.broken.ensures.rest

pub after_array-returns-in-None : goal.after_array-returns-in-None
after_array-returns-in-None t c =
    barred_by c.args.levels c.requires (no_level c.args.levels c.in-Some.is c.in-None.ensures)
    c.broken-in-None.ensures.rule c.broken-in-None.ensures.rest

pub after_array-returns-in-Some-checked_sub : goal.after_array-returns-in-Some-checked_sub
after_array-returns-in-Some-checked_sub t c =
    judged c.after_items.result
    (λ rest i. array_left c.args.levels _ c.args.len _ (head.Array c.args.len) c.args.following.now (Some rest.now) refl
    c.in-Some.is c.in-Some-checked_sub.ensures i)
    (λ b i. array_broken c.in-Some.is c.in-Some-checked_sub.ensures b.rule b.rest.now c.requires i)
    c.after_items.ensures

pub after_map-returns-in_default : goal.after_map-returns-in_default
after_map-returns-in_default t c =
    barred_by c.args.levels c.requires (ap (list_rule c.args.levels) c.in_default.is) c.broken.ensures.rule
    c.broken.ensures.rest

pub after_map-returns-in-None : goal.after_map-returns-in-None
after_map-returns-in-None t c =
    barred_by c.args.levels c.requires (no_level c.args.levels c.in-Some.is c.in-None.ensures)
    c.broken-in-None.ensures.rule c.broken-in-None.ensures.rest

pub after_map-returns-in-Some-checked_sub : goal.after_map-returns-in-Some-checked_sub
after_map-returns-in-Some-checked_sub t c =
    judged c.after_pairs.result
    (λ rest p. map_left c.args.levels _ c.args.len _ (head.Map c.args.len) c.args.following.now (Some rest.now) refl
    c.in-Some.is c.in-Some-checked_sub.ensures p)
    (λ b p. map_broken c.in-Some.is c.in-Some-checked_sub.ensures b.rule b.rest.now c.requires p)
    c.after_pairs.ensures

pub after_content-returns-then-n-eq23 : goal.after_content-returns-then-n-eq23
after_content-returns-then-n-eq23 t c =
    barred_by c.args.levels c.requires
    (ap (head_rule c.args.levels) (c.in-Simple.is ∙ ap head.Simple c.if-n-eq23.true)) c.broken.ensures.rule
    c.broken.ensures.rest

pub after_content-returns-in-Bytes : goal.after_content-returns-in-Bytes
after_content-returns-in-Bytes t c = rw c.in-Bytes.is (c.after_string_content.ensures c.args.levels)

pub after_content-returns-in-Text : goal.after_content-returns-in-Text
after_content-returns-in-Text t c = rw c.in-Text.is (c.after_string_content-in-Text.ensures c.args.levels)

pub after_content-returns-in-Tag : goal.after_content-returns-in-Tag
after_content-returns-in-Tag t c =
    barred_by c.args.levels c.requires (ap (head_rule c.args.levels) c.in-Tag.is) c.broken-in-Tag.ensures.rule
    c.broken-in-Tag.ensures.rest

pub after_content-returns-in-Break : goal.after_content-returns-in-Break
after_content-returns-in-Break t c =
    barred_by c.args.levels c.requires (ap (head_rule c.args.levels) c.in-Break.is) c.broken-in-Break.ensures.rule
    c.broken-in-Break.ensures.rest

pub after_item-returns-in-Ok : goal.after_item-returns-in-Ok
after_item-returns-in-Ok t c =
    judged c.after_content.result
    (λ rest i. item_left c.args.levels c.in-Ok.head c.args.bytes.now c.in-Ok.following.now (Some rest.now)
    c.in-Ok.ensures i) (λ b i. i) c.after_content.ensures

pub after_item-returns-in-Err : goal.after_item-returns-in-Err
after_item-returns-in-Err t c = at_head c.in-Err.ensures

pub after_items-returns-in-Err : goal.after_items-returns-in-Err
after_items-returns-in-Err t c =
    items_broken c.loop-left.invariant c.in-Err.broken.rule c.in-Err.broken.rest.now c.loop-left-test.true
    c.in-Err.ensures

pub after_items-loop-left-preserved : goal.after_items-loop-left-preserved
after_items-loop-left-preserved t c =
    items_on c.loop-left.invariant c.in-Ok.next.now c.loop-left-test.true c.in-Ok.ensures

pub after_items-returns : goal.after_items-returns
after_items-returns t c = items_done c.loop-left.invariant (omega (arith, c.loop-left-test.false))

pub after_pairs-returns-in-Err : goal.after_pairs-returns-in-Err
after_pairs-returns-in-Err t c =
    key_broken c.loop-left.invariant c.loop-left-test.true c.in-Err.broken.rule c.in-Err.broken.rest.now
    c.in-Err.ensures

pub after_pairs-key_rule-requires-clause-key : goal.after_pairs-key_rule-requires-clause-key
after_pairs-key_rule-requires-clause-key t c =
    key_long c.args.levels c.loop-left.here.now c.in-Ok.next.now c.in-Ok.ensures

pub after_pairs-returns-in-Some : goal.after_pairs-returns-in-Some
after_pairs-returns-in-Some t c =
    key_misplaced c.loop-left.invariant c.loop-left-test.true c.in-Ok.next.now c.in-Ok.ensures _
    (key_is c.args.levels c.loop-left.here.now c.in-Ok.next.now c.in-Ok.ensures) c.in-Some.rule _ _
    (sym c.in-Some.ensures) c.broken.ensures.rule c.broken.ensures.rest

pub after_pairs-returns-in-Err-after_item : goal.after_pairs-returns-in-Err-after_item
after_pairs-returns-in-Err-after_item t c =
    value_broken c.loop-left.invariant c.loop-left-test.true c.in-Ok.next.now c.in-Ok.ensures _
    (key_is c.args.levels c.loop-left.here.now c.in-Ok.next.now c.in-Ok.ensures) c.in-Err-after_item.broken.rule
    c.in-Err-after_item.broken.rest.now (sym c.in_default.ensures) c.in-Err-after_item.ensures

pub after_pairs-loop-left-preserved : goal.after_pairs-loop-left-preserved
after_pairs-loop-left-preserved t c =
    pairs_on c.loop-left.invariant c.loop-left-test.true c.in-Ok.next.now c.in-Ok.ensures _
    (key_is c.args.levels c.loop-left.here.now c.in-Ok.next.now c.in-Ok.ensures) c.in-Ok-after_item.next.now
    (sym c.in_default.ensures) c.in-Ok-after_item.ensures

pub after_pairs-returns : goal.after_pairs-returns
after_pairs-returns t c = pairs_done c.loop-left.invariant (omega (arith, c.loop-left-test.false))
