use Rattle.std.proofs.Common.{◌≡◌, ◌∙◌, sym, subst, ap}
use Rattle.json.specs.Value.{value_view}
use Rattle.passkey_cbor.specs.View.{item_of, pair_of}
use Rattle.passkey_cbor_text.proofs.Gathering.{reads_as}
use Rattle.passkey_cbor_text.proofs.Indexed.{mapped_at}
use Rattle.passkey_cbor_text.proofs.Pairs.{pushed}
use Rattle.passkey_explain.proofs.Blames.{look_there}
use Rattle.passkey_kinds.specs.Look.{tested, HasForm}
use Rattle.passkey_kinds.specs.Record.{naming_of, named_as, row}
use Rattle.passkey_kinds.specs.declared.look.Form.{Form}
use Rattle.passkey_kinds.specs.declared.rows.Named.{Named}
use Rattle.passkey_render.proofs.Parts.{array_seen, each_goes, each_stops, escape_seen, no_elements, no_members, object_seen}
use Rattle.passkey_render.proofs.Typing.{leaf_read, list_read, members_read, no_list_read, no_members_read, row_read, table_shape}
use Rattle.passkey_render.specs.Parts.{named_in}
use Rattle.passkey_render.specs.Typed.{json_item, keys_of, member_item}
use Rattle.passkey_render.proofs.typed.+items.Goals as goal

pub elements-returns-in-Err : goal.elements-returns-in-Err
elements-returns-in-Err g t c = λ u reaches.
    let x = c.index-all-index in
    let at = mapped_at value_view c.args.all.now _ x.result x.is c.loop-index-test.true in
    each_stops (λ _. json_item u.shape) _ _ _ _ _ at _ c.in-Err.fault c.under.result (c.loop-index.invariant u reaches)
    (c.in-Err.ensures u reaches) c.under.ensures

pub elements-loop-index-preserved : goal.elements-loop-index-preserved
elements-loop-index-preserved g t c = λ u reaches.
    let x = c.index-all-index in
    let at = mapped_at value_view c.args.all.now _ x.result x.is c.loop-index-test.true in
    each_goes (λ _. json_item u.shape) _ _ _ _ _ at _ _ (c.in-Ok.ensures u reaches)
    (pushed item_of _ _ _ c.in_ok-push-in-Ok.ensures.items) ∙ c.loop-index.invariant u reaches

pub members-returns-in-Err : goal.members-returns-in-Err
members-returns-in-Err g t c = λ of there.
    let x = c.index-all-index in
    let at = mapped_at named_in c.args.all.now _ x.result x.is c.loop-index-test.true in
    each_stops (λ _. member_item (keys_of c.args.keys.now) of) _ _ _ _ _ at _ c.in-Err.fault c.under.result
    (c.loop-index.invariant of there) (c.in-Err.ensures of there) c.under.ensures

pub members-loop-index-preserved : goal.members-loop-index-preserved
members-loop-index-preserved g t c = λ of there.
    let x = c.index-all-index in
    let at = mapped_at named_in c.args.all.now _ x.result x.is c.loop-index-test.true in
    each_goes (λ _. member_item (keys_of c.args.keys.now) of) _ _ _ _ _ at _ _ (c.in-Ok.ensures of there)
    (pushed pair_of _ _ _ c.in_ok-push-in-Ok.ensures.items) ∙ c.loop-index.invariant of there

pub list-returns-in_ok-inner-in-Array : goal.list-returns-in_ok-inner-in-Array
list-returns-in_ok-inner-in-Array g t c = λ u reaches h.
    let l = list_read u (value_view c.args.json.now) _ c.args.way.now _ _ reaches
    (c.deref.ensures.value ∙ c.in_ok-inner-in-Array.ensures)
    (array_seen c.args.json.now c.in-Array.all _ c.in-Array.is c.deref-in-Array.ensures.value) h in
    reads_as item_of _ _ c.array_of.result l.1.1 (c.array_of.ensures _ (c.elements.ensures l.0 l.1.0))

pub list-returns-in_default : goal.list-returns-in_default
list-returns-in_default g t c = λ u reaches h.
    reads_as item_of _ _ c.item_from_json.result
    (no_list_read u _ h (no_elements c.args.json.now c.in_default.not-Array)) c.item_from_json.ensures

pub table-returns-in_default : goal.table-returns-in_default
table-returns-in_default g t c = λ u reaches h.
    reads_as item_of _ _ c.item_from_json-in_default.result
    (no_members_read u c.args.keys.now h _ (no_members c.args.json.now c.in_default.not-Object))
    c.item_from_json-in_default.ensures

pub item-returns-in-Leaf : goal.item-returns-in-Leaf
item-returns-in-Leaf g t c = λ u at.
    let l = look_there c.args.way.now (tested g.M.FromCbor.typed) u _ c.look.result c.in_ok-wanted.field-0 at
    c.look.ensures c.in_ok-wanted.was in
    reads_as item_of _ _ c.wanted_item.result
    (leaf_read u.shape c.in-Leaf.wanted (subst (λ (f : Form). HasForm u.shape f) c.in-Leaf.is l.form) _)
    c.wanted_item.ensures

pub table-returns-then-is_escape : goal.table-returns-then-is_escape
table-returns-then-is_escape g t c = λ u reaches h.
    reads_as item_of _ _ c.item_from_json.result (no_members_read u c.args.keys.now h _ (escape_seen c.args.json.now
    c.in-Object.all c.deref.result.now c.is_escape.result c.in-Object.is c.deref.ensures.value c.is_escape.ensures
    c.if-is_escape.true)) c.item_from_json.ensures

pub table-returns-else-is_escape : goal.table-returns-else-is_escape
table-returns-else-is_escape g t c = λ u reaches h.
    let s = table_shape u c.args.keys.now h in
    reads_as item_of _ _ c.map_of.result (members_read u c.args.keys.now s _ _ (object_seen c.args.json.now c.in-Object.all
    c.deref.result.now c.is_escape.result c.in-Object.is c.deref.ensures.value c.is_escape.ensures
    c.deref-in-Object.result.now c.deref-in-Object.ensures.value c.if-is_escape.false))
    (c.map_of.ensures _ (c.members.ensures s.of (s.there _ _ reaches)))

pub value-returns-in_ok-inner-in-Some-Row : goal.value-returns-in_ok-inner-in-Some-Row
value-returns-in_ok-inner-in-Some-Row g t c = λ ks of label there e.
    let is : naming_of c.args.named ≡ row c.in-Some-Row.number = rw c.in-Some-Row.is (ap (λ (x : Named). named_as x)
    (rw c.in-Some-Row.is at c.in-Some-Row.field-0-is)) in
    row_read there c.in-Some-Row.number label _ (value_view c.args.json.now) c.item.result (sym e ∙ is)
    (c.deref.ensures.value ∙ c.in_ok-inner-in-Some-Row.ensures) c.item.ensures
