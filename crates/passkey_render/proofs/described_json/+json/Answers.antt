use Rattle.std.proofs.Common.{arith, lit<, sym, ap, ◌∙◌, ◌++◌, [], List, ℕ, map, string_bytes}
use Rattle.std.proofs.lemmas.Str.{encode_ascii}
use Rattle.passkey_cbor.specs.View.{item_of}
use Rattle.passkey_explain.specs.Described.{Described, described_of, label_of, labelled, parts_from, element, key}
use Rattle.passkey_cbor.specs.declared.value.Value.{Value}
use Rattle.passkey_explain.specs.declared.description.Description.{Description}
use Rattle.passkey_explain.specs.declared.description.FieldName.{FieldName}
use Rattle.passkey_explain.proofs.Describing.{described_of-List, described_of-Map, described_of-Record}
use Rattle.passkey_render.specs.Json.{json_text, parts_json}
use Rattle.passkey_render.proofs.Texts.{closed, parts_done}
use Rattle.passkey_render.proofs.described_json.+json.Goals as goal

pub push_json-returns-in_ok-push-in-List-2 : goal.push_json-returns-in_ok-push-in-List-2
push_json-returns-in_ok-push-in-List-2 t c =
    let old = string_bytes c.args.out.now in
    closed 91 93 old (string_bytes c.push.new.self) (string_bytes c.push_elements.new.out) _ _
    (c.in_ok-push-in-List.ensures.bytes ∙ ap (λ (s : List ℕ). old ++ s) (encode_ascii 91 (lit< tt)))
    (c.in_ok-push_elements-in-List.ensures
    ∙ ap (λ (ds : List Description). string_bytes c.push.new.self
    ++ parts_json (parts_from (map (λ d. labelled element d) (map described_of ds))) []) c.deref.ensures.value)
    (c.in_ok-push-in-List-2.ensures.bytes
    ∙ ap (λ (s : List ℕ). string_bytes c.push_elements.new.out ++ s) (encode_ascii 93 (lit< tt)))
    ∙ ap (λ (d : Described). old ++ json_text d)
    (sym (ap described_of c.in-List.is ∙ described_of-List c.in-List.items))

pub push_json-returns-in_ok-push-in-Map-2 : goal.push_json-returns-in_ok-push-in-Map-2
push_json-returns-in_ok-push-in-Map-2 t c =
    let old = string_bytes c.args.out.now in
    closed 123 125 old (string_bytes c.push-in-Map.new.self) (string_bytes c.loop-key.out) _ _
    (c.in_ok-push-in-Map.ensures.bytes ∙ ap (λ (s : List ℕ). old ++ s) (encode_ascii 123 (lit< tt)))
    (parts_done _ _ c.loop-key.key-index (string_bytes c.loop-key.out) _ _ (omega arith) c.loop-key.invariant
    ∙ ap (λ (ps : List (Value × Description)). string_bytes c.push-in-Map.new.self
    ++ parts_json (parts_from (map (λ p. labelled (key (item_of p.0)) (described_of p.1)) ps)) [])
    c.deref-key-items.ensures.value)
    (c.in_ok-push-in-Map-2.ensures.bytes
    ∙ ap (λ (s : List ℕ). string_bytes c.loop-key.out ++ s) (encode_ascii 125 (lit< tt)))
    ∙ ap (λ (d : Described). old ++ json_text d)
    (sym (ap described_of c.in-Map.is ∙ described_of-Map c.in-Map.pairs))

pub push_json-returns-in_ok-push-in-Record-2 : goal.push_json-returns-in_ok-push-in-Record-2
push_json-returns-in_ok-push-in-Record-2 t c =
    let old = string_bytes c.args.out.now in
    closed 123 125 old (string_bytes c.push-in-Record.new.self) (string_bytes c.push_fields.new.out) _ _
    (c.in_ok-push-in-Record.ensures.bytes ∙ ap (λ (s : List ℕ). old ++ s) (encode_ascii 123 (lit< tt)))
    (c.in_ok-push_fields-in-Record.ensures
    ∙ ap (λ (ps : List (FieldName × Description)). string_bytes c.push-in-Record.new.self
    ++ parts_json (parts_from (map (λ p. labelled (label_of p.0) (described_of p.1)) ps)) [])
    c.deref-in-Record.ensures.value)
    (c.in_ok-push-in-Record-2.ensures.bytes
    ∙ ap (λ (s : List ℕ). string_bytes c.push_fields.new.out ++ s) (encode_ascii 125 (lit< tt)))
    ∙ ap (λ (d : Described). old ++ json_text d)
    (sym (ap described_of c.in-Record.is ∙ described_of-Record c.in-Record.fields))
