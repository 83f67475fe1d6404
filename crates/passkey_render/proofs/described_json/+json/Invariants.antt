use Rattle.std.proofs.Common.{◌≡◌, ◌++◌, [], map, drop, string_bytes}
use Rattle.passkey_cbor.specs.View.{item_of}
use Rattle.passkey_explain.specs.Described.{described_of, label_of, labelled, parts_from, element, key}
use Rattle.passkey_render.specs.Json.{comma_if, parts_json}
use Rattle.passkey_render.proofs.described_json.+json.Given as goal

abbrev pub invariant-push_elements-loop-item : goal.invariant-push_elements-loop-item
invariant-push_elements-loop-item l =
    string_bytes l.out ++ parts_json (parts_from (map (λ d. labelled element d) (map described_of
    (drop l.item-index l.items)))) (comma_if l.is_first)
    ≡ string_bytes l.initial.out ++ parts_json (parts_from (map (λ d. labelled element d) (map described_of l.items))) []

abbrev pub invariant-push_json-loop-key : goal.invariant-push_json-loop-key
invariant-push_json-loop-key l =
    string_bytes l.out ++ parts_json (parts_from (map (λ p. labelled (key (item_of p.0)) (described_of p.1))
    (drop l.key-index l.key-items))) (comma_if l.is_first)
    ≡ string_bytes l.initial.out ++ parts_json (parts_from (map (λ p. labelled (key (item_of p.0)) (described_of p.1))
    l.key-items)) []

abbrev pub invariant-push_fields-loop-name : goal.invariant-push_fields-loop-name
invariant-push_fields-loop-name l =
    string_bytes l.out ++ parts_json (parts_from (map (λ p. labelled (label_of p.0) (described_of p.1))
    (drop l.name-index l.fields))) (comma_if l.is_first)
    ≡ string_bytes l.initial.out ++ parts_json (parts_from (map (λ p. labelled (label_of p.0) (described_of p.1))
    l.fields)) []
