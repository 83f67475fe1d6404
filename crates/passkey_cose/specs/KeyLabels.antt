-- The members of a key: pairs of a label and a value, as data items.
use Rattle.std.specs.Prelude.{ℕ, pos, Bool, true, not, ◌&&◌, List, [], ◌∷◌, Option, option_map}
use Rattle.std.specs.List.{find, list_any}
use Rattle.passkey_cbor.specs.Item.{Item, number}
use Rattle.passkey_cbor.specs.Same.{item_eq}

abbrev pub Members : Type 0
Members = List (Item × Item)

abbrev pub is_label : ℕ → Item → Bool
is_label n label = item_eq label (number (pos n))

-- the labels of the common parameters (RFC 9052, section 7.1): kty, kid, alg, key_ops and Base IV
abbrev pub is_common : Item → Bool
is_common label = list_any (λ n. is_label n label) (1 ∷ 2 ∷ 3 ∷ 4 ∷ 5 ∷ [])

abbrev pub has_label : Members → Item → Bool
has_label ms label = list_any (λ (m : Item × Item). item_eq label m.0) ms

-- the value of the first member with this label, if there is one
abbrev pub value_at : Item → Members → Option Item
value_at label ms = option_map (λ (m : Item × Item). m.1) (find (λ (m : Item × Item). item_eq label m.0) ms)

-- no label is a common parameter's, and no label occurs twice
abbrev pub are_separate : Members → Bool
are_separate [] = true
are_separate (m ∷ ms) = (not (is_common m.0) && not (has_label ms m.0)) && are_separate ms
