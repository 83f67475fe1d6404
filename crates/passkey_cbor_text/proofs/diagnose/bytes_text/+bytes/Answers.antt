use Rattle.std.proofs.Common.{refl, arith, lit<, sym, ap, ◌≡◌, ◌∙◌, ◌++◌, List, ℕ, suc, false, Some, Option, ◌-◌, string_bytes}
use Rattle.std.proofs.lemmas.Str.{encode_ascii}
use Rattle.passkey_cbor_text.specs.diagnose.BytesText.{item_text, member_text, parts_text}
use Rattle.passkey_cbor_text.proofs.BytesTexts.{parts_end, parts_over, parts_broken, parts_step, tells_as, list_none}
use Rattle.passkey_cbor_text.proofs.BytesTexts.{list_some, unsigned_after, negative_after, simple_after, float_after}
use Rattle.passkey_cbor_text.proofs.BytesTexts.{break_after, bytes_after, text_after, no_array, no_map, no_tag}
use Rattle.passkey_cbor_text.proofs.BytesTexts.{array_after, map_after, tag_inside, item_none, item_some, tag_none, tag_some}
use Rattle.passkey_cbor_text.proofs.diagnose.bytes_text.+bytes.Goals as goal

pub push_after-returns-in_ok-push_unsigned-in-Unsigned : goal.push_after-returns-in_ok-push_unsigned-in-Unsigned
push_after-returns-in_ok-push_unsigned-in-Unsigned t c =
    unsigned_after _ c.args.margin.now c.args.info c.in-Unsigned.n c.args.head _ c.args.bytes.now
    (string_bytes c.args.out.now) _ c.in-Unsigned.is c.mark.ensures c.in_ok-push_unsigned-in-Unsigned.ensures

pub push_after-returns-in_ok-push_negative-in-Negative : goal.push_after-returns-in_ok-push_negative-in-Negative
push_after-returns-in_ok-push_negative-in-Negative t c =
    negative_after _ c.args.margin.now c.args.info c.in-Negative.n c.args.head _ c.args.bytes.now
    (string_bytes c.args.out.now) _ c.in-Negative.is c.mark-in-Negative.ensures
    c.in_ok-push_negative-in-Negative.ensures

pub push_after-returns-in-Bytes : goal.push_after-returns-in-Bytes
push_after-returns-in-Bytes t c =
    tells_as _ _ _ _ (bytes_after _ c.args.margin.now c.args.info c.in-Bytes.len c.args.head c.args.bytes.now
    (string_bytes c.args.out.now) c.in-Bytes.is) c.push_string.ensures

pub push_after-returns-in-Text : goal.push_after-returns-in-Text
push_after-returns-in-Text t c =
    tells_as _ _ _ _ (text_after _ c.args.margin.now c.args.info c.in-Text.len c.args.head c.args.bytes.now
    (string_bytes c.args.out.now) c.in-Text.is) c.push_string-in-Text.ensures

pub push_after-returns-in_ok-push_simple_value-in-Simple : goal.push_after-returns-in_ok-push_simple_value-in-Simple
push_after-returns-in_ok-push_simple_value-in-Simple t c =
    simple_after _ c.args.margin.now c.args.info c.in-Simple.n c.args.head c.args.bytes.now (string_bytes c.args.out.now) _
    c.in-Simple.is c.in_ok-push_simple_value-in-Simple.ensures

pub push_after-returns-in_ok-push_float-in-Float : goal.push_after-returns-in_ok-push_float-in-Float
push_after-returns-in_ok-push_float-in-Float t c =
    float_after _ c.args.margin.now c.args.info c.in-Float.f c.args.head c.args.bytes.now (string_bytes c.args.out.now) _
    c.in-Float.is c.in_ok-push_float-in-Float.ensures

pub push_after-returns-in-Break : goal.push_after-returns-in-Break
push_after-returns-in-Break t c =
    break_after _ c.args.margin.now c.args.info c.args.head c.args.bytes.now (string_bytes c.args.out.now) c.in-Break.is

pub push_after-returns-in-None : goal.push_after-returns-in-None
push_after-returns-in-None t c =
    no_array c.args.levels c.args.margin.now c.args.info c.in-Array.len c.args.head c.args.bytes.now
    (string_bytes c.args.out.now) (omega (arith, c.in-None.ensures)) c.in-Array.is

pub push_after-returns-in-Some : goal.push_after-returns-in-Some
push_after-returns-in-Some t c =
    let e = c.in-Some.ensures in
    let one : c.args.levels ≡ suc c.in-Some.inner = omega (arith, e.0, e.1) in
    tells_as _ _ _ _ (array_after c.args.levels c.in-Some.inner c.args.margin.now c.args.info c.in-Array.len c.args.head
    c.length_mark-indicator.result.now c.args.bytes.now (string_bytes c.args.out.now) one c.in-Array.is
    c.length_mark-indicator.ensures) c.push_list.ensures

pub push_after-returns-in-None-checked_sub : goal.push_after-returns-in-None-checked_sub
push_after-returns-in-None-checked_sub t c =
    no_map c.args.levels c.args.margin.now c.args.info c.in-Map.len c.args.head c.args.bytes.now
    (string_bytes c.args.out.now) (omega (arith, c.in-None-checked_sub.ensures)) c.in-Map.is

pub push_after-returns-in-Some-checked_sub : goal.push_after-returns-in-Some-checked_sub
push_after-returns-in-Some-checked_sub t c =
    let e = c.in-Some-checked_sub.ensures in
    let one : c.args.levels ≡ suc c.in-Some-checked_sub.inner = omega (arith, e.0, e.1) in
    tells_as _ _ _ _ (map_after c.args.levels c.in-Some-checked_sub.inner c.args.margin.now c.args.info c.in-Map.len
    c.args.head c.length_mark-indicator-in-Some-checked_sub.result.now c.args.bytes.now (string_bytes c.args.out.now) one
    c.in-Map.is c.length_mark-indicator-in-Some-checked_sub.ensures) c.push_list-in-Some-checked_sub.ensures

pub push_after-returns-in-None-checked_sub-2 : goal.push_after-returns-in-None-checked_sub-2
push_after-returns-in-None-checked_sub-2 t c =
    no_tag c.args.levels c.args.margin.now c.args.info c.in-Tag.tag c.args.head c.args.bytes.now
    (string_bytes c.args.out.now) (omega (arith, c.in-None-checked_sub-2.ensures)) c.in-Tag.is

pub push_after-returns-in-Some-checked_sub-2 : goal.push_after-returns-in-Some-checked_sub-2
push_after-returns-in-Some-checked_sub-2 t c =
    let e = c.in-Some-checked_sub-2.ensures in
    let one : c.args.levels ≡ suc c.in-Some-checked_sub-2.inner = omega (arith, e.0, e.1) in
    tells_as _ _ _ _ (tag_inside c.args.levels c.in-Some-checked_sub-2.inner c.args.margin.now c.args.info c.in-Tag.tag
    c.args.head c.mark-in-Some-checked_sub-2.result.now c.args.bytes.now (string_bytes c.args.out.now) one
    c.in-Tag.is c.mark-in-Some-checked_sub-2.ensures) c.push_tagged.ensures

pub push_item-returns-in-None : goal.push_item-returns-in-None
push_item-returns-in-None t c =
    item_none c.args.levels c.args.margin.now c.args.bytes.now (string_bytes c.args.out.now) c.in-None.ensures

pub push_item-returns-in-Some : goal.push_item-returns-in-Some
push_item-returns-in-Some t c =
    let e = c.in-Some.ensures in
    tells_as _ _ _ _ (item_some c.args.levels c.args.margin.now c.info_of.result c.in-Some.head c.args.bytes.now
    c.in-Some.rest.now (string_bytes c.args.out.now) e c.info_of.ensures) c.push_after.ensures

pub push_list-returns-in-None : goal.push_list-returns-in-None
push_list-returns-in-None t c =
    let none = rw c.in-None.is at c.in_ok-push_members.ensures in
    list_none (item_text c.args.levels) c.args.is_map c.args.margin.now _ c.args.indicator.now c.args.len c.args.bytes.now
    (string_bytes c.args.out.now) _ (c.as_str.ensures.value ∙ c.in_ok-inner.ensures) c.in_ok-open.ensures none

pub push_list-returns : goal.push_list-returns
push_list-returns t c =
    let some = rw c.in-Some.is at c.in_ok-push_members.ensures in
    let done = rw c.goes_on.ensures at c.in_ok-end-in-Some.ensures in
    list_some (item_text c.args.levels) c.args.is_map c.args.margin.now _ c.args.indicator.now c.args.len c.args.bytes.now
    (string_bytes c.args.out.now) _ _ _ _ (c.as_str.ensures.value ∙ c.in_ok-inner.ensures) c.in_ok-open.ensures some done

pub push_members-loop-alloc-init : goal.push_members-loop-alloc-init
push_members-loop-alloc-init t c = refl

pub push_members-returns-then-others-eq0 : goal.push_members-returns-then-others-eq0
push_members-returns-then-others-eq0 t c =
    let tell = member_text (item_text c.args.levels c.args.margin.now) c.args.is_map in
    sym c.loop-alloc.invariant
    ∙ ap (λ (n : ℕ). parts_text tell c.args.margin.now n c.loop-alloc.left c.loop-alloc.is_first c.loop-alloc.here.now
    (string_bytes c.loop-alloc.out)) c.if-others-eq0.true
    ∙ parts_over tell c.args.margin.now c.loop-alloc.left c.loop-alloc.is_first c.loop-alloc.here.now
    (string_bytes c.loop-alloc.out) (sym c.loop-alloc-test.ensures)

pub push_members-returns-in-None : goal.push_members-returns-in-None
push_members-returns-in-None t c =
    let none = rw c.in-None.is at c.in_ok-push_member.ensures in
    sym c.loop-alloc.invariant
    ∙ parts_broken (member_text (item_text c.args.levels c.args.margin.now) c.args.is_map) c.args.margin.now
    c.loop-alloc.others c.loop-alloc.left c.loop-alloc.is_first c.loop-alloc.here.now
    (string_bytes c.loop-alloc.out) (string_bytes c.push_separator.new.out) (omega arith) (sym c.loop-alloc-test.ensures)
    c.in_ok-push_separator.ensures none

pub push_members-loop-alloc-preserved : goal.push_members-loop-alloc-preserved
push_members-loop-alloc-preserved t c =
    let tell = member_text (item_text c.args.levels c.args.margin.now) c.args.is_map in
    let one = rw c.in-Some.is at c.in_ok-push_member.ensures in
    ap (λ (left : Option ℕ). parts_text tell c.args.margin.now (c.loop-alloc.others - 1) left false c.in-Some.next.now
    (string_bytes c.push_member.new.out)) c.fewer-left.ensures
    ∙ sym (parts_step tell c.args.margin.now c.loop-alloc.others c.loop-alloc.left c.loop-alloc.is_first
    c.loop-alloc.here.now (string_bytes c.loop-alloc.out) (string_bytes c.push_separator.new.out)
    (string_bytes c.push_member.new.out) c.in-Some.next.now (omega arith) (sym c.loop-alloc-test.ensures)
    c.in_ok-push_separator.ensures one) ∙ c.loop-alloc.invariant

pub push_members-returns : goal.push_members-returns
push_members-returns t c =
    sym c.loop-alloc.invariant
    ∙ parts_end (member_text (item_text c.args.levels c.args.margin.now) c.args.is_map) c.args.margin.now
    c.loop-alloc.others c.loop-alloc.left c.loop-alloc.is_first c.loop-alloc.here.now
    (string_bytes c.loop-alloc.out) (sym c.loop-alloc-test.ensures)
    ∙ ap (λ (r : List ℕ). Some (string_bytes c.loop-alloc.out, r)) (sym c.after_last.ensures)

pub push_tagged-returns-in-None : goal.push_tagged-returns-in-None
push_tagged-returns-in-None t c =
    let none = rw c.in-None.is at c.in_ok-push_item.ensures in
    tag_none (item_text c.args.levels) c.args.margin.now c.args.indicator.now c.args.tag c.args.bytes.now
    (string_bytes c.args.out.now) _ _ c.in_ok-push_unsigned.ensures (c.in_ok-push.ensures.bytes
    ∙ ap (λ (s : List ℕ). string_bytes c.push_unsigned.new.out ++ s) (encode_ascii 40 (lit< tt))) none

pub push_tagged-returns-in_ok-push-in-Some : goal.push_tagged-returns-in_ok-push-in-Some
push_tagged-returns-in_ok-push-in-Some t c =
    let some = rw c.in-Some.is at c.in_ok-push_item.ensures in
    tag_some (item_text c.args.levels) c.args.margin.now c.args.indicator.now c.args.tag c.args.bytes.now
    (string_bytes c.args.out.now) _ _ _ _ _ c.in_ok-push_unsigned.ensures (c.in_ok-push.ensures.bytes
    ∙ ap (λ (s : List ℕ). string_bytes c.push_unsigned.new.out ++ s) (encode_ascii 40 (lit< tt))) some
    (c.in_ok-push-in-Some.ensures.bytes
    ∙ ap (λ (s : List ℕ). string_bytes c.push_item.new.out ++ s) (encode_ascii 41 (lit< tt)))
