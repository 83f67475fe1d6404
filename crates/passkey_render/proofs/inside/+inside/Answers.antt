use Rattle.std.proofs.Common.{◌∙◌, List, map, sym, ap, arith}
use Rattle.std.proofs.lemmas.List.{take_all}
use Rattle.passkey_cbor.specs.View.{item_of}
use Rattle.passkey_cbor.specs.declared.value.Value.{Value}
use Rattle.passkey_explain.proofs.Describing.{described_of-List, described_of-Map, described_of-Record}
use Rattle.passkey_explain.specs.Described.{Described, Part, described_of, element, key, labelled, list, map_of, parts, parts_from, record_of_members}
use Rattle.passkey_explain.specs.DescribedData.{field_of}
use Rattle.passkey_explain.specs.declared.description.Description.{Description}
use Rattle.passkey_explain.specs.declared.description.FieldName.{FieldName}
use Rattle.passkey_render.specs.Opened.{opened}
use Rattle.passkey_render.proofs.Opening.{elements_opened, parts_opened}
use Rattle.passkey_render.proofs.inside.+inside.Goals as goal

pub opened-returns-in_ok-open_items-in-List : goal.opened-returns-in_ok-open_items-in-List
opened-returns-in_ok-open_items-in-List t c =
    let items = c.deref.result.now in
    let is = ap described_of c.in-List.is ∙ described_of-List c.in-List.items
    ∙ ap (λ (ds : List Description). parts list (parts_from (map (λ d. labelled element d) (map described_of ds))))
    (sym c.deref.ensures.value) in
    described_of-List c.in_ok-open_items-in-List.field-0
    ∙ ap (λ (ds : List Described). parts list (parts_from (map (λ d. labelled element d) ds)))
    c.in_ok-open_items-in-List.ensures
    ∙ ap (parts list) (sym (elements_opened (map described_of items)))
    ∙ sym (ap opened is)

pub opened-returns-in_ok-open_members-in-Record : goal.opened-returns-in_ok-open_members-in-Record
opened-returns-in_ok-open_members-in-Record t c =
    let fields = c.deref-in-Record.result.now in
    let is = ap described_of c.in-Record.is ∙ described_of-Record c.in-Record.fields
    ∙ ap (λ (ps : List (FieldName × Description)). parts record_of_members (parts_from (map field_of ps)))
    (sym c.deref-in-Record.ensures.value) in
    described_of-Record c.in_ok-open_members-in-Record.field-0
    ∙ ap (λ (ps : List Part). parts record_of_members (parts_from ps)) c.in_ok-open_members-in-Record.ensures
    ∙ ap (parts record_of_members) (sym (parts_opened field_of fields))
    ∙ sym (ap opened is)

pub opened-returns-after-loop-key : goal.opened-returns-after-loop-key
opened-returns-after-loop-key t c =
    let items = c.deref-key-items.result.now in
    let is = ap described_of c.in-Map.is ∙ described_of-Map c.in-Map.pairs
    ∙ ap (λ (ps : List (Value × Description)). parts map_of (parts_from (map
    (λ p. labelled (key (item_of p.0)) (described_of p.1)) ps))) (sym c.deref-key-items.ensures.value) in
    let done = c.loop-key.invariant ∙ ap (λ (ps : List (Value × Description)).
    map (λ p. labelled (key (item_of p.0)) (opened (described_of p.1))) ps)
    (take_all c.loop-key.key-index items (omega arith)) in
    described_of-Map c.loop-key.parts
    ∙ ap (λ (ps : List Part). parts map_of (parts_from ps)) done
    ∙ ap (parts map_of)
    (sym (parts_opened (λ (p : Value × Description). labelled (key (item_of p.0)) (described_of p.1)) items))
    ∙ sym (ap opened is)
