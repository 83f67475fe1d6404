-- The end of comparing two lists.
use Rattle.std.proofs.Common.{◌≡◌, ℕ, ◌≤◌, ◌==◌, List, [], ◌∷◌, length, drop, refl}
use Rattle.std.proofs.lemmas.List.{drop_all}
use Rattle.passkey_cbor.specs.Same.{items_eq, pairs_eq}
use Rattle.passkey_cbor.specs.View.{items_view, pairs_view}
use Rattle.passkey_cbor.specs.declared.value.Value.{Value}
use Rattle.passkey_memory.proofs.Emptiness.{not_none}

-- at the end of the first list, the rest of the other decides
pub items_eq-end : (a rest : List Value) (i : ℕ) → length a ≤ i
    → (length rest == 0) ≡ items_eq (items_view (drop i a)) (items_view rest)
items_eq-end a [] i le = rw (drop_all i a le) refl
items_eq-end a (v ∷ vs) i le = rw (drop_all i a le) (not_none (length vs))

pub pairs_eq-end : (a rest : List (Value × Value)) (i : ℕ) → length a ≤ i
    → (length rest == 0) ≡ pairs_eq (pairs_view (drop i a)) (pairs_view rest)
pairs_eq-end a [] i le = rw (drop_all i a le) refl
pairs_eq-end a (p ∷ ps) i le = rw (drop_all i a le) (not_none (length ps))
