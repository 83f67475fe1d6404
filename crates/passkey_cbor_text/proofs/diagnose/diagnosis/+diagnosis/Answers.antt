use Rattle.std.proofs.Common.{arith, ◌∙◌, ◌++◌, ◌∷◌, [], List, ℕ, Bool, sym, ap, lit<, encode_utf8, string_bytes}
use Rattle.std.proofs.lemmas.Result.{on_ok_weaker}
use Rattle.std.proofs.lemmas.Str.{encode_ascii}
use Rattle.passkey_cbor.specs.View.{items_view, pairs_view}
use Rattle.passkey_cbor.proofs.building.Views.{item_of-Map}
use Rattle.passkey_cbor_text.specs.diagnose.Diagnosis.{closing, deeper, items_text, pairs_text}
use Rattle.passkey_cbor_text.proofs.Texts.{closed, items_done, pairs_done, no_items_in, no_pairs_in}
use Rattle.passkey_cbor_text.proofs.diagnose.diagnosis.+diagnosis.Goals as goal

pub push_array-returns : goal.push_array-returns
push_array-returns t c =
    let vs = c.args.items.now in
    let margin = c.args.margin.now in
    let old = string_bytes c.args.out.now in
    let pushed = string_bytes c.push.new.self in
    let inside = items_text (items_view vs) (deeper margin) (deeper margin) in
    let all = items_done vs c.loop-item.item-index (string_bytes c.loop-item.out) _ _ _ (omega arith) c.loop-item.invariant
    ∙ ap (λ (m : List ℕ). pushed ++ items_text (items_view vs) m m) (c.as_str-inner.ensures.value ∙ c.in_ok-deeper.ensures) in
    on_ok_weaker c.close.result
    (λ ended. closed 91 old pushed (string_bytes c.loop-item.out) (string_bytes c.close.new.out) inside
    (closing c.is_empty.result margin ++ encode_utf8 93)
    ((c.in_ok-push.ensures).bytes ∙ ap (λ (s : List ℕ). old ++ s) (encode_ascii 91 (lit< tt))) all ended
    ∙ ap (λ (s : List ℕ). old ++ 91 ∷ (inside ++ (closing c.is_empty.result margin ++ s))) (encode_ascii 93 (lit< tt))
    ∙ ap (λ (b : Bool). old ++ 91 ∷ (inside ++ (closing b margin ++ 93 ∷ []))) (c.is_empty.ensures ∙ sym (no_items_in vs)))
    c.close.ensures

pub push_map-returns : goal.push_map-returns
push_map-returns t c =
    let ps = c.args.pairs.now in
    let margin = c.args.margin.now in
    let old = string_bytes c.args.out.now in
    let pushed = string_bytes c.push.new.self in
    let inside = pairs_text (pairs_view ps) (deeper margin) (deeper margin) in
    let all = pairs_done ps c.loop-key.key-index (string_bytes c.loop-key.out) _ _ _ (omega arith) c.loop-key.invariant
    ∙ ap (λ (m : List ℕ). pushed ++ pairs_text (pairs_view ps) m m) (c.as_str-inner.ensures.value ∙ c.in_ok-deeper.ensures) in
    on_ok_weaker c.close.result
    (λ ended. closed 123 old pushed (string_bytes c.loop-key.out) (string_bytes c.close.new.out) inside
    (closing c.is_empty.result margin ++ encode_utf8 125)
    ((c.in_ok-push.ensures).bytes ∙ ap (λ (s : List ℕ). old ++ s) (encode_ascii 123 (lit< tt))) all ended
    ∙ ap (λ (s : List ℕ). old ++ 123 ∷ (inside ++ (closing c.is_empty.result margin ++ s))) (encode_ascii 125 (lit< tt))
    ∙ ap (λ (b : Bool). old ++ 123 ∷ (inside ++ (closing b margin ++ 125 ∷ []))) (c.is_empty.ensures ∙ sym (no_pairs_in ps)))
    c.close.ensures

pub push_value-returns-in-Map : goal.push_value-returns-in-Map
push_value-returns-in-Map t c = rw (c.in-Map.is, item_of-Map c.in-Map.pairs, ← c.deref-in-Map.ensures.value) c.push_map.ensures
