-- Copying takes memory only if the copied data item does.
use Rattle.std.proofs.Common.{◌≡◌, List, [], ◌∷◌, length, refl, false, IsTrue}
use Rattle.passkey_cbor.specs.Item as spec
use Rattle.passkey_cbor.specs.View.{items_view, pairs_view}
use Rattle.passkey_cbor.specs.Grows.{Grows}
use Rattle.passkey_cbor.specs.declared.value.Value.{Value}

pub array_grows : (vs : List Value) → (length vs ≡ 0 → IsTrue false) → Grows (spec.array (items_view vs))
array_grows [] some = let none : IsTrue false = some refl in cc
array_grows (v ∷ vs) some = tt

pub map_grows : (ps : List (Value × Value)) → (length ps ≡ 0 → IsTrue false) → Grows (spec.map (pairs_view ps))
map_grows [] some = let none : IsTrue false = some refl in cc
map_grows (p ∷ ps) some = tt
