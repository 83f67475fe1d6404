-- Arrays of two, as the members of a map.
use Rattle.std.proofs.Common.{◌≡◌, ◌∙◌, ℕ, arith, List, [], ◌∷◌, ◌++◌, map, length, get_or, Option, Some, None, option_map, Ok, Err, refl, sym, ap}
use Rattle.std.proofs.lemmas.List.{map-append}
use Rattle.std.specs.Option.{option_and_then}
use Rattle.passkey_cbor.specs.Item.{Item, array, elements, items_of, map as item_map, pairs_of}
use Rattle.passkey_cbor.specs.View.{item_of, pair_of}
use Rattle.passkey_cbor.specs.declared.value.Value.{Value}
use Rattle.passkey_cbor_text.specs.declared.values.no_item.ItemReason.TheVariants.{Pairs as NoPairs}
use Rattle.passkey_cbor_text.specs.values.JsonItem.{map_in, pair_in, pairs_from}
use Rattle.passkey_cbor_text.specs.values.NoItem.{here, or_reason}
use Rattle.passkey_cbor_text.specs.values.Ordered.{Member}

pub two : (vs : List Value) (x y : Value) → length vs ≡ 2 → x ≡ get_or vs 0 x → y ≡ get_or vs 1 y
    → Some (item_of x, item_of y) ≡ pair_in (array (items_of (map item_of vs)))
two [] x y n e f = absurd (omega arith)
two (u ∷ []) x y n e f = absurd (omega arith)
two (u ∷ v ∷ []) x y n e f = rw (e, f) refl
two (u ∷ v ∷ w ∷ vs) x y n e f = absurd (omega arith)

pub not_two : (vs : List Value) → (length vs ≡ 2 → ⊥) → None ≡ pair_in (array (items_of (map item_of vs)))
not_two [] h = refl
not_two (u ∷ []) h = refl
not_two (u ∷ v ∷ []) h = absurd (h (omega arith))
not_two (u ∷ v ∷ w ∷ vs) h = refl

pub pushed : {V Y : Type 0} (view : V → Y) (new old : List V) (v : V) → new ≡ old ++ v ∷ []
    → map view new ≡ map view old ++ view v ∷ []
pushed {V} view new old v e = ap (λ (vs : List V). map view vs) e ∙ map-append view old (v ∷ [])

pub pair_stops : (before : List Member) (i : Item) (rest more : List Item) → rest ≡ i ∷ more → None ≡ pair_in i
    → pairs_from before rest ≡ None
pair_stops before i rest more at none = rw (at, sym none) refl

pub pair_goes : (before new : List Member) (i : Item) (m copy : Member) (rest more : List Item) → rest ≡ i ∷ more
    → Some m ≡ pair_in i → copy ≡ m → new ≡ before ++ copy ∷ [] → pairs_from new more ≡ pairs_from before rest
pair_goes before new i m copy rest more at has same grown = rw (at, sym has, grown, same) refl

pub copied : (k v l w : Value) → item_of l ≡ item_of k → item_of w ≡ item_of v → pair_of (l, w) ≡ (item_of k, item_of v)
copied k v l w e f = rw (e, f) refl

listed : (is : List Item) → elements (items_of is) ≡ is
listed [] = refl
listed (i ∷ is) = ap (λ (js : List Item). i ∷ js) (listed is)

pub map_found : (is : List Item) (ms : List Member) → Some ms ≡ pairs_from [] is
    → or_reason NoPairs (map_in (array (items_of is))) ≡ Ok (item_map (pairs_of ms))
map_found is ms e = rw (listed is, sym e) refl

pub no_map : (is : List Item) → None ≡ pairs_from [] is
    → or_reason NoPairs (map_in (array (items_of is))) ≡ Err (here NoPairs)
no_map is e = rw (listed is, sym e) refl
