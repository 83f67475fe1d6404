-- Where a key belongs among the members of a map.
use Rattle.std.proofs.Common.{◌≡◌, ◌∙◌, ℕ, suc, ◌-◌, ◌<◌, ◌≤◌, arith, List, ◌∷◌, ◌++◌, map, length, get_or, take, drop, Option, Some, None, option_map, if◌then◌else◌, Bool, true, refl, sym, ap}
use Rattle.std.proofs.lemmas.List.{get_or-map, length-map, map-append, take-map, drop-map}
use Rattle.std.specs.List.{insert}
use Rattle.std.specs.declared.cmp.Ordering.{Ordering}
use Rattle.std.specs.declared.cmp.Ordering.TheVariants.{Less, Equal, Greater}
use Rattle.passkey_cbor.specs.Order.{ctap2_order}
use Rattle.passkey_cbor.specs.View.{item_of, pair_of}
use Rattle.passkey_cbor.specs.Written.{written}
use Rattle.passkey_cbor.specs.declared.value.Value.{Value}
use Rattle.passkey_cbor_text.specs.values.Ordered.{Member, by_order, no_member, place_below, with_member}

abbrev Members : Type 0
Members = List (Value × Value)

module _ (ms : Members) (key : List ℕ) (left n : ℕ) (d : Value × Value) (o : Ordering) (whole : Option ℕ)
    (is : left ≡ suc n) (within : n < length ms) (order : o ≡ ctap2_order (written (item_of (get_or ms n d).0)) key)
    (so : place_below (map pair_of ms) key left ≡ whole) where
  -- the member before the place that is reached
  here : get_or (map pair_of ms) n no_member ≡ pair_of (get_or ms n d)
  here = get_or-map pair_of ms n d no_member within

  step : place_below (map pair_of ms) key left ≡ by_order o n (place_below (map pair_of ms) key n)
  step = rw (is, here, order) refl

  by : (p : Ordering) → o ≡ p → by_order p n (place_below (map pair_of ms) key n) ≡ whole
  by p e = ap (λ (q : Ordering). by_order q n (place_below (map pair_of ms) key n)) (sym e) ∙ sym step ∙ so

  pub comes_before : o ≡ Less → Some left ≡ whole
  comes_before less = ap (λ (k : ℕ). Some k) is ∙ by Less less

  pub is_there : o ≡ Equal → None ≡ whole
  is_there same = by Equal same

  pub goes_before : o ≡ Greater → place_below (map pair_of ms) key n ≡ whole
  goes_before more = by Greater more

map-insert : {X Y : Type 0} (f : X → Y) (xs : List X) (n : ℕ) (x : X) → map f (insert xs n x) ≡ insert (map f xs) n (f x)
map-insert f xs n x = map-append f (take n xs) (x ∷ drop n xs)
    ∙ rw (take-map f n xs, drop-map f n xs) refl

pub added : (ms more new : Members) (m : Value × Value) (key : List ℕ) (n : ℕ) (o : Option ℕ) → more ≡ ms
    → key ≡ written (item_of m.0) → o ≡ place_below (map pair_of more) key (length more) → o ≡ Some n
    → new ≡ insert ms n m → with_member (map pair_of ms) (pair_of m) ≡ Some (map pair_of new)
added ms more new m key n o same encoded is found grown =
    let there : place_below (map pair_of ms) (written (item_of m.0)) (length (map pair_of ms)) ≡ Some n =
    ap (λ (k : ℕ). place_below (map pair_of ms) (written (item_of m.0)) k) (length-map ms pair_of)
    ∙ sym (is ∙ ap (λ (us : Members). place_below (map pair_of us) key (length us)) same
    ∙ ap (λ (k : List ℕ). place_below (map pair_of ms) k (length ms)) encoded) ∙ found in
    rw (there, grown, map-insert pair_of ms n m) refl
