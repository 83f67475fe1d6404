use Rattle.passkey_kinds.specs.Look.{tested, HasForm}
use Rattle.passkey_kinds.specs.declared.look.Form.{Form}
use Rattle.passkey_kinds.proofs.Steps.{◌∙◌, sym, ap, subst, map, item_of, pair_of, Value, List, pairs_of}
use Rattle.passkey_kinds.proofs.Common.{array, items_of, item_of-Array, item_of-Map}
use Rattle.passkey_cbor.specs.Item as item
use Rattle.passkey_explain.proofs.Blames.{look_there}
use Rattle.passkey_explain.proofs.Describing.{leaf_described, described_as, no_array, not_a_map, list_described, no_list_described, map_described, no_map_described, record_described, no_record_described, field_described, fields_done}
use Rattle.passkey_explain.specs.Described.{described_row}
use Rattle.passkey_explain.proofs.description.+describe.Goals as goal

pub describe_list-returns-in_ok-describe_elements-in-Array : goal.describe_list-returns-in_ok-describe_elements-in-Array
describe_list-returns-in_ok-describe_elements-in-Array g t c = λ u reaches h.
    let is = ap item_of c.in-Array.is ∙ item_of-Array c.in-Array.elements
    ∙ ap (λ (vs : List Value). array (items_of (map item_of vs))) (sym c.deref-in-Array.ensures.value) in
    list_described u (item_of c.args.value.now) (map item_of c.deref-in-Array.result.now)
    c.in_ok-describe_elements-in-Array.field-0 _ _ _ reaches
    (c.deref.ensures.value ∙ c.in_ok-inner-in-Array.ensures) is h c.in_ok-describe_elements-in-Array.ensures

pub describe_list-returns-in_default : goal.describe_list-returns-in_default
describe_list-returns-in_default g t c = λ u reaches h.
    let v = c.args.value.now in
    described_as c.whole.result _ _ (no_list_described u (item_of v) h (no_array v c.in_default.not-Array)) c.whole.ensures

pub describe_map-returns-in_ok-describe_entries-in-Map : goal.describe_map-returns-in_ok-describe_entries-in-Map
describe_map-returns-in_ok-describe_entries-in-Map g t c = λ u reaches h.
    let is = ap item_of c.in-Map.is ∙ item_of-Map c.in-Map.pairs
    ∙ ap (λ (ps : List (Value × Value)). item.map (pairs_of (map pair_of ps))) (sym c.deref-in-Map.ensures.value) in
    map_described u (item_of c.args.value.now) (map pair_of c.deref-in-Map.result.now)
    c.in_ok-describe_entries-in-Map.field-0 _ _ _ reaches
    (c.deref.ensures.value ∙ c.in_ok-inner-in-Map.ensures) is h c.in_ok-describe_entries-in-Map.ensures

pub describe_map-returns-in_default : goal.describe_map-returns-in_default
describe_map-returns-in_default g t c = λ u reaches h.
    let v = c.args.value.now in
    described_as c.whole.result _ _ (no_map_described u (item_of v) h (not_a_map v c.in_default.not-Map)) c.whole.ensures

pub describe_record-returns-in_ok-describe_fields-in-Map : goal.describe_record-returns-in_ok-describe_fields-in-Map
describe_record-returns-in_ok-describe_fields-in-Map g t c = λ u reaches h.
    let table = c.args.table.now in
    let is = ap item_of c.in-Map.is ∙ item_of-Map c.in-Map.pairs
    ∙ ap (λ (ps : List (Value × Value)). item.map (pairs_of (map pair_of ps))) (sym c.deref.ensures.value) in
    record_described u table.is_numbered table.rows (item_of c.args.value.now) (map pair_of c.deref.result.now)
    c.in_ok-describe_fields-in-Map.field-0 _ _ reaches is h c.in_ok-describe_fields-in-Map.ensures

pub describe_record-returns-in_default : goal.describe_record-returns-in_default
describe_record-returns-in_default g t c = λ u reaches h.
    let v = c.args.value.now in
    let table = c.args.table.now in
    described_as c.whole.result _ _
    (no_record_described u table.is_numbered table.rows (item_of v) h (not_a_map v c.in_default.not-Map)) c.whole.ensures

pub describe_field-returns-in_ok-description-in-Some-Row : goal.describe_field-returns-in_ok-description-in-Some-Row
describe_field-returns-in_ok-description-in-Some-Row g t c = λ rows h.
    let label = item_of c.args.key.now in
    let naming = sym (rw c.in-Some-Row.field-0-is at c.in-Some-Row.ensures) in
    field_described h c.in-Some-Row.number label (item_of c.args.value.now) naming _ _
    c.in_ok-description-in-Some-Row.description (c.deref.ensures.value ∙ c.in_ok-inner-in-Some-Row.ensures)
    c.name_of.ensures c.in_ok-description-in-Some-Row.ensures

pub describe_fields-returns : goal.describe_fields-returns
describe_fields-returns g t c = λ rows h.
    fields_done _ _ c.loop-key.key-index (described_row rows) c.loop-key.all.items c.args.pairs.now
    c.loop-key-test.false (c.loop-key.invariant rows h)

pub describe_at-returns-in-Leaf : goal.describe_at-returns-in-Leaf
describe_at-returns-in-Leaf g t c = λ u at.
    let i = item_of c.args.value.now in
    let l = look_there c.args.way.now (tested g.M.FromCbor.typed) u i c.look.result c.in_ok-wanted.field-0 at
    c.look.ensures c.in_ok-wanted.was in
    described_as c.whole.result _ _
    (leaf_described u.shape c.in-Leaf.wanted (subst (λ (f : Form). HasForm u.shape f) c.in-Leaf.is l.form) i)
    c.whole.ensures
