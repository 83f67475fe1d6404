use Rattle.std.proofs.Common.{◌≡◌, ◌++◌, drop, string_bytes}
use Rattle.passkey_cbor.specs.View.{items_view, pairs_view}
use Rattle.passkey_cbor_text.specs.diagnose.Diagnosis.{items_text, pairs_text, separator}
use Rattle.passkey_cbor_text.proofs.diagnose.diagnosis.+diagnosis.Given as goal

abbrev pub invariant-push_array-loop-item : goal.invariant-push_array-loop-item
invariant-push_array-loop-item l =
    string_bytes l.out ++ items_text (items_view (drop l.item-index l.items)) (separator l.is_first l.inner) l.inner
    ≡ string_bytes l.initial.out ++ items_text (items_view l.items) l.inner l.inner

abbrev pub invariant-push_map-loop-key : goal.invariant-push_map-loop-key
invariant-push_map-loop-key l =
    string_bytes l.out ++ pairs_text (pairs_view (drop l.key-index l.pairs)) (separator l.is_first l.inner) l.inner
    ≡ string_bytes l.initial.out ++ pairs_text (pairs_view l.pairs) l.inner l.inner
