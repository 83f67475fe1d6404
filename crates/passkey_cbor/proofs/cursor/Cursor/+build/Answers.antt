use Rattle.std.proofs.Common.{◌-◌, ℕ, List, subst, refl, sym, ap, ◌∙◌, false, true, arith}
use Rattle.std.specs.Prelude.{pos, negsuc}
use Rattle.std.proofs.lemmas.Result.{err_from_is_err_and}
use Rattle.passkey_cbor.specs.Item.{Item, number, array, map, tagged, float, items_of, pairs_of}
use Rattle.passkey_cbor.specs.CursorState.{ahead}
use Rattle.passkey_cbor.specs.HeadCount.{content_len}
use Rattle.passkey_cbor.specs.Reading.{start, list_at, pair_by, simple_item, item_by, item_within}
use Rattle.passkey_cbor.specs.View.{item_of}
use Rattle.passkey_cbor.specs.Building.{Makes, built, byte_string_at, text_string_at, an_item, a_counted_item, a_pair, each_of}
use Rattle.passkey_cbor.specs.declared.head.Head.TheVariants as head
use Rattle.passkey_cbor.specs.declared.value.Value.{Integer, Float, Tag, Array, Map}
use Rattle.passkey_cbor.proofs.building.Views.{item_of-Integer, item_of-Float, item_of-Tag, item_of-Array, item_of-Map}
use Rattle.passkey_cbor.proofs.skipping.After.{by_flat, by_string, by_array, by_map, by_tag, by_nothing, by_break}
use Rattle.passkey_cbor.proofs.heads.HeadCounts.{spans_flat}
use Rattle.passkey_cbor.proofs.skipping.Skipping.{passed_none}
use Rattle.passkey_cbor.proofs.items.Shrinking.{start_left, item_left, pair_left}
use Rattle.passkey_cbor.proofs.building.Gathering.{moves_none, moves_stopped, on_ok, makes_nothing, makes_one, makes_after, makes_put, fails_put, full_put, makes_both, fails_first, fails_second, no_room, gathers_start, gathers_malformed, gathers_made, gathers_fails, gathers_full, gathers_pushed}
use Rattle.passkey_cbor.proofs.building.Counted.{counted_once, simple_size, array_size, map_size, tag_size}
use Rattle.passkey_cbor.proofs.building.Valuing.{grows_array, grows_map}
use Rattle.passkey_cbor.proofs.items.Binds.{bind_at, bind_none}
use Rattle.passkey_cbor.specs.HeadReading.{Read, head_at}
use Rattle.passkey_cbor.specs.declared.head.Head.{Head}
use Rattle.passkey_cbor.proofs.cursor.Cursor.+build.Goals as goal

pub build_inside-returns-in-Unsigned : goal.build_inside-returns-in-Unsigned
unfolding item_by
build_inside-returns-in-Unsigned t c =
    rw c.put.ensures (makes_one a_counted_item _ (number (pos c.in-Unsigned.n)) c.args.self.now c.args.self.now
    (Integer c.unsigned.result) (passed_none c.args.self.now c.requires.inside)
    (spans_flat _ c.args.self.now (ap content_len c.in-Unsigned.is)) (by_flat c.args.levels
    c.args.head (head.Unsigned c.in-Unsigned.n) (number (pos c.in-Unsigned.n)) (ahead c.args.self.now)
    c.in-Unsigned.is (λ inner. refl)) (item_of-Integer c.unsigned.result ∙ ap number c.unsigned.ensures) (refl))

pub build_inside-returns-in-Negative : goal.build_inside-returns-in-Negative
unfolding item_by
build_inside-returns-in-Negative t c =
    rw c.put-in-Negative.ensures (makes_one a_counted_item _ (number (negsuc c.in-Negative.n)) c.args.self.now
    c.args.self.now (Integer c.negative.result) (passed_none c.args.self.now c.requires.inside)
    (spans_flat _ c.args.self.now (ap content_len c.in-Negative.is)) (by_flat c.args.levels
    c.args.head (head.Negative c.in-Negative.n) (number (negsuc c.in-Negative.n)) (ahead c.args.self.now)
    c.in-Negative.is (λ inner. refl)) (item_of-Integer c.negative.result ∙ ap number c.negative.ensures) (refl))

pub build_inside-returns-in-Simple : goal.build_inside-returns-in-Simple
unfolding item_by
build_inside-returns-in-Simple t c =
    rw c.put-in-Simple.ensures (makes_one a_counted_item _ (simple_item c.in-Simple.n) c.args.self.now
    c.args.self.now (c.simple_value.result) (passed_none c.args.self.now c.requires.inside)
    (spans_flat _ c.args.self.now (ap content_len c.in-Simple.is))
    (by_flat c.args.levels c.args.head (head.Simple c.in-Simple.n) (simple_item c.in-Simple.n)
    (ahead c.args.self.now) c.in-Simple.is (λ inner. refl)) (c.simple_value.ensures) (simple_size c.in-Simple.n))

pub build_inside-returns-in-Float : goal.build_inside-returns-in-Float
unfolding item_by
build_inside-returns-in-Float t c =
    rw c.put-in-Float.ensures (makes_one a_counted_item _ (float c.in-Float.float) c.args.self.now
    c.args.self.now (Float c.in-Float.float) (passed_none c.args.self.now c.requires.inside)
    (spans_flat _ c.args.self.now (ap content_len c.in-Float.is))
    (by_flat c.args.levels c.args.head (head.Float c.in-Float.float) (float c.in-Float.float)
    (ahead c.args.self.now) c.in-Float.is (λ inner. refl)) (item_of-Float c.in-Float.float) (refl))

pub build_inside-returns-in-Break : goal.build_inside-returns-in-Break
build_inside-returns-in-Break t c =
    makes_nothing a_counted_item _ c.args.self.now c.args.self.now _ (moves_none c.args.self.now c.requires.inside)
    (by_break c.args.levels c.args.head (ahead c.args.self.now) c.in-Break.is)

pub build_inside-returns-in-Bytes : goal.build_inside-returns-in-Bytes
build_inside-returns-in-Bytes t c =
    subst (λ (r : Read Item). Makes a_counted_item (content_len c.args.head) r c.args.self.now
    c.build_byte_string.new.self (built c.build_byte_string.new.out c.build_byte_string.result))
    (sym (by_string c.args.levels false c.in-Bytes.len c.args.head (ahead c.args.self.now) c.in-Bytes.is))
    (subst (λ (n : ℕ). Makes a_counted_item n (byte_string_at c.in-Bytes.len (ahead c.args.self.now)) c.args.self.now
    c.build_byte_string.new.self (built c.build_byte_string.new.out c.build_byte_string.result))
    (sym (ap content_len c.in-Bytes.is)) c.build_byte_string.ensures)

pub build_inside-returns-in-Text : goal.build_inside-returns-in-Text
build_inside-returns-in-Text t c =
    subst (λ (r : Read Item). Makes a_counted_item (content_len c.args.head) r c.args.self.now
    c.build_text_string.new.self (built c.build_text_string.new.out c.build_text_string.result))
    (sym (by_string c.args.levels true c.in-Text.len c.args.head (ahead c.args.self.now) c.in-Text.is))
    (subst (λ (n : ℕ). Makes a_counted_item n (text_string_at c.in-Text.len (ahead c.args.self.now)) c.args.self.now
    c.build_text_string.new.self (built c.build_text_string.new.out c.build_text_string.result))
    (sym (ap content_len c.in-Text.is)) c.build_text_string.ensures)

pub build_inside-returns-in-Array : goal.build_inside-returns-in-Array
build_inside-returns-in-Array t c =
    subst (λ (h : Head). Makes a_counted_item (content_len h) (item_within c.args.levels h (ahead c.args.self.now))
    c.args.self.now c.build_array.new.self (built c.build_array.new.out c.build_array.result)) (sym c.in-Array.is)
    c.build_array.ensures

pub build_inside-returns-in-Map : goal.build_inside-returns-in-Map
build_inside-returns-in-Map t c =
    subst (λ (h : Head). Makes a_counted_item (content_len h) (item_within c.args.levels h (ahead c.args.self.now))
    c.args.self.now c.build_map.new.self (built c.build_map.new.out c.build_map.result)) (sym c.in-Map.is)
    c.build_map.ensures

pub build_inside-returns-in-Tag : goal.build_inside-returns-in-Tag
build_inside-returns-in-Tag t c =
    subst (λ (h : Head). Makes a_counted_item (content_len h) (item_within c.args.levels h (ahead c.args.self.now))
    c.args.self.now c.build_tagged.new.self (built c.build_tagged.new.out c.build_tagged.result)) (sym c.in-Tag.is)
    c.build_tagged.ensures

pub build_array-returns-then-levels-eq0 : goal.build_array-returns-then-levels-eq0
unfolding item_by
build_array-returns-then-levels-eq0 t c =
    makes_nothing a_counted_item _ c.args.self.now c.args.self.now _ (moves_none c.args.self.now c.requires.inside)
    (by_nothing c.args.levels (head.Array c.args.len) (head.Array c.args.len) (ahead c.args.self.now)
    c.if-levels-eq0.true refl refl)

pub build_array-returns-in_err-items : goal.build_array-returns-in_err-items
build_array-returns-in_err-items t c =
    let p = err_from_is_err_and c.from_residual.result c.from_residual.ensures.1 in
    rw (p.1, p.2) (fails_put (each_of an_item) a_counted_item (λ xs. array (items_of xs))
    (list_at (item_within (c.args.levels - 1)) c.args.len (ahead c.args.self.now)) _ c.args.self.now
    c.args.self.now _
    (by_array c.args.levels c.args.len (head.Array c.args.len) (ahead c.args.self.now) (omega arith) refl)
    grows_array array_size
    (no_room an_item (item_within (c.args.levels - 1)) c.args.len c.args.self.now
    (item_left (c.args.levels - 1)) c.requires.inside c.in_err-items.ensures.some))

pub build_array-returns-in_err-build_items : goal.build_array-returns-in_err-build_items
build_array-returns-in_err-build_items t c =
    let p = err_from_is_err_and c.from_residual-in_err-build_items.result
    c.from_residual-in_err-build_items.ensures.1 in
    rw (p.1, p.2) (fails_put (each_of an_item) a_counted_item (λ xs. array (items_of xs))
    (list_at (item_within (c.args.levels - 1)) c.args.len (ahead c.args.self.now)) _ c.args.self.now
    c.build_items.new.self c.in_err-build_items.field-0.0
    (by_array c.args.levels c.args.len (head.Array c.args.len) (ahead c.args.self.now) (omega arith) refl)
    grows_array array_size c.in_err-build_items.ensures)

pub build_array-returns : goal.build_array-returns
build_array-returns t c =
    rw c.put.ensures (makes_put (each_of an_item) a_counted_item (λ xs. array (items_of xs))
    (list_at (item_within (c.args.levels - 1)) c.args.len (ahead c.args.self.now)) _ c.args.self.now
    c.build_items.new.self c.build_items.new.items (Array c.build_items.new.items)
    (by_array c.args.levels c.args.len (head.Array c.args.len) (ahead c.args.self.now) (omega arith) refl)
    (item_of-Array c.build_items.new.items) array_size c.in_ok-build_items.ensures)

pub build_map-returns-then-levels-eq0 : goal.build_map-returns-then-levels-eq0
unfolding item_by
build_map-returns-then-levels-eq0 t c =
    makes_nothing a_counted_item _ c.args.self.now c.args.self.now _ (moves_none c.args.self.now c.requires.inside)
    (by_nothing c.args.levels (head.Map c.args.len) (head.Map c.args.len) (ahead c.args.self.now)
    c.if-levels-eq0.true refl refl)

pub build_map-returns-in_err-pairs : goal.build_map-returns-in_err-pairs
build_map-returns-in_err-pairs t c =
    let p = err_from_is_err_and c.from_residual.result c.from_residual.ensures.1 in
    rw (p.1, p.2) (fails_put (each_of a_pair) a_counted_item (λ ms. map (pairs_of ms))
    (list_at (pair_by (item_within (c.args.levels - 1))) c.args.len (ahead c.args.self.now)) _ c.args.self.now
    c.args.self.now _
    (by_map c.args.levels c.args.len (head.Map c.args.len) (ahead c.args.self.now) (omega arith) refl)
    grows_map map_size
    (no_room a_pair (pair_by (item_within (c.args.levels - 1))) c.args.len c.args.self.now
    (pair_left (item_within (c.args.levels - 1)) (item_left (c.args.levels - 1))) c.requires.inside c.in_err-pairs.ensures.some))

pub build_map-returns-in_err-build_pairs : goal.build_map-returns-in_err-build_pairs
build_map-returns-in_err-build_pairs t c =
    let p = err_from_is_err_and c.from_residual-in_err-build_pairs.result c.from_residual-in_err-build_pairs.ensures.1 in
    rw (p.1, p.2) (fails_put (each_of a_pair) a_counted_item (λ ms. map (pairs_of ms))
    (list_at (pair_by (item_within (c.args.levels - 1))) c.args.len (ahead c.args.self.now)) _ c.args.self.now
    c.build_pairs.new.self c.in_err-build_pairs.field-0.0
    (by_map c.args.levels c.args.len (head.Map c.args.len) (ahead c.args.self.now) (omega arith) refl)
    grows_map map_size c.in_err-build_pairs.ensures)

pub build_map-returns : goal.build_map-returns
build_map-returns t c =
    rw c.put.ensures (makes_put (each_of a_pair) a_counted_item (λ ms. map (pairs_of ms))
    (list_at (pair_by (item_within (c.args.levels - 1))) c.args.len (ahead c.args.self.now)) _ c.args.self.now
    c.build_pairs.new.self c.build_pairs.new.pairs (Map c.build_pairs.new.pairs)
    (by_map c.args.levels c.args.len (head.Map c.args.len) (ahead c.args.self.now) (omega arith) refl)
    (item_of-Map c.build_pairs.new.pairs) map_size c.in_ok-build_pairs.ensures)

pub build_tagged-returns-then-levels-eq0 : goal.build_tagged-returns-then-levels-eq0
unfolding item_by
build_tagged-returns-then-levels-eq0 t c =
    makes_nothing a_counted_item _ c.args.self.now c.args.self.now _ (moves_none c.args.self.now c.requires.inside)
    (by_nothing c.args.levels (head.Tag c.args.tag) (head.Tag c.args.tag) (ahead c.args.self.now)
    c.if-levels-eq0.true refl refl)

pub build_tagged-returns-in_err-build_item : goal.build_tagged-returns-in_err-build_item
build_tagged-returns-in_err-build_item t c =
    let p = err_from_is_err_and c.from_residual.result c.from_residual.ensures.1 in
    rw (p.1, p.2) (fails_put an_item a_counted_item (tagged c.args.tag) (start (item_within (c.args.levels - 1))
    (ahead c.args.self.now)) _ c.args.self.now c.build_item.new.self c.in_err-build_item.field-0.0
    (by_tag c.args.levels c.args.tag (head.Tag c.args.tag) (ahead c.args.self.now) (omega arith) refl)
    (λ x h. tt) (tag_size c.args.tag) c.in_err-build_item.ensures.made)

pub build_tagged-returns-in_err-new : goal.build_tagged-returns-in_err-new
build_tagged-returns-in_err-new t c =
    let p = err_from_is_err_and c.from_residual-in_err-new.result c.from_residual-in_err-new.ensures.1 in
    rw (p.1, p.2) (full_put an_item a_counted_item (tagged c.args.tag) (start (item_within (c.args.levels - 1))
    (ahead c.args.self.now)) _ c.args.self.now c.build_item.new.self c.build_item.new.out
    (by_tag c.args.levels c.args.tag (head.Tag c.args.tag) (ahead c.args.self.now) (omega arith) refl) (λ x. tt)
    (tag_size c.args.tag) c.in_ok-build_item.ensures.made)

pub build_tagged-returns : goal.build_tagged-returns
build_tagged-returns t c =
    rw c.put.ensures (makes_put an_item a_counted_item (tagged c.args.tag)
    (start (item_within (c.args.levels - 1)) (ahead c.args.self.now)) _ c.args.self.now c.build_item.new.self
    c.build_item.new.out (Tag c.args.tag c.in_ok-new.field-0)
    (by_tag c.args.levels c.args.tag (head.Tag c.args.tag) (ahead c.args.self.now) (omega arith) refl)
    (item_of-Tag c.args.tag c.in_ok-new.field-0 ∙ ap (λ v. tagged c.args.tag (item_of v))
    c.in_ok-new.ensures.ok) (tag_size c.args.tag) c.in_ok-build_item.ensures.made)

pub build_after-returns : goal.build_after-returns
build_after-returns t c =
    counted_once (content_len c.args.head) (item_within c.args.levels c.args.head (ahead c.args.self.now))
    c.args.self.now c.add.new.self c.build_inside.new.self (built c.build_inside.new.out c.build_inside.result)
    c.add.ensures.raised c.add.ensures.heads c.add.ensures.nodes
    (subst (λ (bytes : List ℕ). Makes a_counted_item (content_len c.args.head)
    (item_within c.args.levels c.args.head bytes) c.add.new.self c.build_inside.new.self
    (built c.build_inside.new.out c.build_inside.result)) (ap ahead c.add.ensures.raised) c.build_inside.ensures)

pub build_item-returns-in-None : goal.build_item-returns-in-None
build_item-returns-in-None t c = record {
  made = makes_nothing an_item _ c.args.self.now c.decode.new.self _
      (moves_stopped c.args.self.now c.decode.new.self c.in-None.ensures.reads.stopped) (bind_none
      (head_at (ahead c.args.self.now)) (λ h. item_within c.args.levels h.0 h.1) c.in-None.ensures.reads.reads);
  moved = tt;
}

pub build_item-returns-in-Some : goal.build_item-returns-in-Some
build_item-returns-in-Some t c = record {
  made = makes_after an_item (item_within c.args.levels c.in-Some.head (ahead c.decode.new.self)) _ c.args.self.now
      c.decode.new.self c.build_after.new.self c.in-Some.head (built c.build_after.new.out c.build_after.result)
      c.in-Some.ensures.reads
      (bind_at (head_at (ahead c.args.self.now)) (c.in-Some.head, ahead c.decode.new.self)
      (λ h. item_within c.args.levels h.0 h.1) c.in-Some.ensures.reads.reads) c.build_after.ensures;
  moved = on_ok c.build_after.result
      (omega (arith, c.in-Some.ensures.reads.further, c.build_after.ensures.moves.forward));
}

pub build_items-loop-head-init : goal.build_items-loop-head-init
build_items-loop-head-init t c = gathers_start (item_within c.args.levels) an_item.size c.args.len c.args.self.now
    _ c.requires.inside (rw c.requires.empty refl)

pub build_items-returns-in-Malformed : goal.build_items-returns-in-Malformed
build_items-returns-in-Malformed t c =
    gathers_malformed an_item (item_within c.args.levels) c.args.len c.loop-head.left c.args.self.now
    c.loop-head.self c.step.new.self _ c.loop-head.invariant c.in-Malformed.ensures.reads

pub build_items-returns-in-End : goal.build_items-returns-in-End
build_items-returns-in-End t c =
    gathers_made an_item (item_within c.args.levels) c.args.len c.loop-head.left c.args.self.now c.loop-head.self
    c.step.new.self c.loop-head.items c.loop-head.invariant c.in-End.ensures.reads

pub build_items-returns-in_err-build_after-in-Element : goal.build_items-returns-in_err-build_after-in-Element
build_items-returns-in_err-build_after-in-Element t c =
    let p = err_from_is_err_and c.from_residual.result
    c.from_residual.ensures.1 in
    rw (p.1, p.2) (gathers_fails an_item (item_within c.args.levels) c.args.len c.loop-head.left c.step.new.left
    c.args.self.now c.loop-head.self c.step.new.self c.build_after.new.self c.in-Element.head _
    c.in_err-build_after-in-Element.field-0.0 (item_left c.args.levels) c.loop-head.invariant
    c.in-Element.ensures.reads c.in_err-build_after-in-Element.ensures)

pub build_items-loop-head-preserved : goal.build_items-loop-head-preserved
build_items-loop-head-preserved t c =
    gathers_pushed an_item (item_within c.args.levels) c.args.len c.loop-head.left c.step.new.left c.args.self.now
    c.loop-head.self c.step.new.self c.build_after.new.self c.in-Element.head c.loop-head.items.items _
    c.build_after.new.out c.loop-head.invariant c.in-Element.ensures.reads
    c.in_ok-build_after-in-Element.ensures c.in_ok-push-in-Element.ensures.items

pub build_items-returns-in_err-push-in-Element : goal.build_items-returns-in_err-push-in-Element
build_items-returns-in_err-push-in-Element t c =
    let p = err_from_is_err_and c.from_residual-in_err-push-in-Element.result
    c.from_residual-in_err-push-in-Element.ensures.1 in
    rw (p.1, p.2) (gathers_full an_item (item_within c.args.levels) c.args.len c.loop-head.left c.step.new.left
    c.args.self.now c.loop-head.self c.step.new.self c.build_after.new.self c.in-Element.head _
    c.build_after.new.out (item_left c.args.levels) c.loop-head.invariant
    c.in-Element.ensures.reads c.in_ok-build_after-in-Element.ensures)

pub build_pairs-loop-head-init : goal.build_pairs-loop-head-init
build_pairs-loop-head-init t c = gathers_start (pair_by (item_within c.args.levels)) a_pair.size c.args.len
    c.args.self.now _ c.requires.inside (rw c.requires.empty refl)

pub build_pairs-returns-in-Malformed : goal.build_pairs-returns-in-Malformed
build_pairs-returns-in-Malformed t c =
    gathers_malformed a_pair (pair_by (item_within c.args.levels)) c.args.len c.loop-head.left c.args.self.now
    c.loop-head.self c.step.new.self _ c.loop-head.invariant c.in-Malformed.ensures.reads

pub build_pairs-returns-in-End : goal.build_pairs-returns-in-End
build_pairs-returns-in-End t c =
    gathers_made a_pair (pair_by (item_within c.args.levels)) c.args.len c.loop-head.left c.args.self.now
    c.loop-head.self c.step.new.self c.loop-head.pairs c.loop-head.invariant c.in-End.ensures.reads

pub build_pairs-returns-in_err-build_pair-in-Element : goal.build_pairs-returns-in_err-build_pair-in-Element
build_pairs-returns-in_err-build_pair-in-Element t c =
    let p = err_from_is_err_and c.from_residual.result
    c.from_residual.ensures.1 in
    rw (p.1, p.2) (gathers_fails a_pair (pair_by (item_within c.args.levels)) c.args.len c.loop-head.left
    c.step.new.left c.args.self.now c.loop-head.self c.step.new.self c.build_pair.new.self c.in-Element.head _
    c.in_err-build_pair-in-Element.field-0.0 (pair_left (item_within c.args.levels) (item_left c.args.levels))
    c.loop-head.invariant c.in-Element.ensures.reads c.in_err-build_pair-in-Element.ensures)

pub build_pairs-loop-head-preserved : goal.build_pairs-loop-head-preserved
build_pairs-loop-head-preserved t c =
    gathers_pushed a_pair (pair_by (item_within c.args.levels)) c.args.len c.loop-head.left c.step.new.left
    c.args.self.now c.loop-head.self c.step.new.self c.build_pair.new.self c.in-Element.head
    c.loop-head.pairs.items _ (c.build_pair.new.key, c.build_pair.new.value) c.loop-head.invariant
    c.in-Element.ensures.reads c.in_ok-build_pair-in-Element.ensures c.in_ok-append_pair-in-Element.ensures

pub build_pairs-returns-in_err-append_pair-in-Element : goal.build_pairs-returns-in_err-append_pair-in-Element
build_pairs-returns-in_err-append_pair-in-Element t c =
    let p = err_from_is_err_and c.from_residual-in_err-append_pair-in-Element.result
    c.from_residual-in_err-append_pair-in-Element.ensures.1 in
    rw (p.1, p.2) (gathers_full a_pair (pair_by (item_within c.args.levels)) c.args.len c.loop-head.left
    c.step.new.left c.args.self.now c.loop-head.self c.step.new.self c.build_pair.new.self c.in-Element.head _
    (c.build_pair.new.key, c.build_pair.new.value) (pair_left (item_within c.args.levels) (item_left c.args.levels))
    c.loop-head.invariant c.in-Element.ensures.reads c.in_ok-build_pair-in-Element.ensures)

pub build_pair-returns-in_err-build_after : goal.build_pair-returns-in_err-build_after
build_pair-returns-in_err-build_after t c =
    let p = err_from_is_err_and c.from_residual.result c.from_residual.ensures.1 in
    rw (p.1, p.2) (fails_first an_item a_pair (item_within c.args.levels c.args.head (ahead c.args.self.now))
    (start (item_within c.args.levels)) c.args.self.now c.build_after.new.self c.in_err-build_after.field-0.0 (λ m. tt)
    (λ m. omega arith) (start_left (item_within c.args.levels) (item_left c.args.levels)) c.in_err-build_after.ensures)

pub build_pair-returns-in_err-build_item : goal.build_pair-returns-in_err-build_item
build_pair-returns-in_err-build_item t c =
    let p = err_from_is_err_and c.from_residual-in_err-build_item.result c.from_residual-in_err-build_item.ensures.1 in
    rw (p.1, p.2)
    (fails_second an_item an_item a_pair (item_within c.args.levels c.args.head (ahead c.args.self.now))
    (start (item_within c.args.levels)) c.args.self.now c.build_after.new.self c.build_item.new.self
    c.build_after.new.out c.in_err-build_item.field-0.0 (λ m. tt) (λ m. refl) c.in_ok-build_after.ensures
    c.in_err-build_item.ensures.made)

pub build_pair-returns : goal.build_pair-returns
build_pair-returns t c =
    makes_both an_item an_item a_pair (item_within c.args.levels c.args.head (ahead c.args.self.now))
    (start (item_within c.args.levels)) c.args.self.now c.build_after.new.self c.build_item.new.self
    c.build_after.new.out c.build_item.new.out refl (λ m. refl) c.in_ok-build_after.ensures
    c.in_ok-build_item.ensures.made
