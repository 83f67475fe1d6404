-- Items in canonical form: what the code's loops make.
use Rattle.passkey_cbor.specs.Item.{Item, array, item, items_of, members, no_items, no_pairs, pair, pairs_of, tagged}
use Rattle.passkey_cbor.specs.Item as spec
use Rattle.passkey_cbor.specs.Order.{ctap2_order}
use Rattle.passkey_cbor.specs.Written.{written}
use Rattle.passkey_cbor.specs.View.{item_of, pair_of}
use Rattle.passkey_cbor.specs.declared.value.Value.{Value}
use Rattle.passkey_registered.proofs.Places.{either_within, inserted, place_within, written_long}
use Rattle.passkey_registered.specs.CanonicalForm.{AreKeysOf, canonical_form, canonical_items, canonical_member, canonical_pairs, place_among, sorted}
use Rattle.passkey_kinds.specs.Words.{Members}
use Rattle.passkey_registered.specs.extensions.Others.{place_in, placed}
use Rattle.std.proofs.lemmas.List.Elements.{All-from_recursion}
use Rattle.std.proofs.Common.{Global, List, Vec, [], ap, arith, drop, if◌then◌else◌, insert, length, map, refl, suc, sym, take, ℕ, ◌++◌, ◌<◌, ◌∙◌, ◌≡◌, ◌≤◌, ◌∷◌}
use Rattle.std.specs.List.{All, AllByRecursion}
use Rattle.std.specs.Ordering.{is_lt}

-- the encoded keys alone say where a member is placed
pub place_by_keys : (key : List ℕ) (ms : Members) → place_among key (map (λ m. written m.0) ms) ≡ place_in key ms
place_by_keys key [] = refl
place_by_keys key (m ∷ ms) =
    ap (λ n. if is_lt (ctap2_order key (written m.0)) then 0 else suc n) (place_by_keys key ms)

pub items_in_order : (xs : List Item) → canonical_items (items_of xs) ≡ items_of (map canonical_form xs)
items_in_order [] = refl
items_in_order (x ∷ xs) = ap (item (canonical_form x)) (items_in_order xs)

pub pairs_in_order : (ms : Members) → canonical_pairs (pairs_of ms) ≡ pairs_of (map canonical_member ms)
pairs_in_order [] = refl
pairs_in_order (m ∷ ms) = ap (pair (canonical_form m.0) (canonical_form m.1)) (pairs_in_order ms)

members_of_pairs : (ms : Members) → members (pairs_of ms) ≡ ms
members_of_pairs [] = refl
members_of_pairs (m ∷ ms) = ap (λ (ns : Members). m ∷ ns) (members_of_pairs ms)

pub map_in_order : (ms : Members)
    → canonical_form (spec.map (pairs_of ms)) ≡ spec.map (pairs_of (sorted (map canonical_member ms)))
map_in_order ms =
    ap (λ ps. spec.map (pairs_of (sorted (members ps)))) (pairs_in_order ms)
    ∙ ap (λ ns. spec.map (pairs_of (sorted ns))) (members_of_pairs (map canonical_member ms))

-- ---- encoded keys beside their members

pub keys_long : (ms : Members) (vs : List (Vec ℕ Global)) → AreKeysOf ms (map (λ k. k.items) vs)
    → All (λ k. 0 < length k.items) vs
keys_long ms vs are = All-from_recursion _ vs (each ms vs are) where
  each : (ms : Members) (vs : List (Vec ℕ Global)) → AreKeysOf ms (map (λ k. k.items) vs)
      → AllByRecursion (λ k. 0 < length k.items) vs
  each ms [] are = tt
  each [] (v ∷ vs) are = absurd cc
  each (m ∷ ms) (v ∷ vs) are =
      let first : v.items ≡ written m.0 = cc in
      let rest : map (λ k. k.items) vs ≡ map (λ n. written n.0) ms = cc in
      (rw first (written_long m.0), each ms vs rest)

pub among_within : (key : List ℕ) (vs : List (Vec ℕ Global)) → place_among key (map (λ k. k.items) vs) ≤ length vs
among_within key [] = omega arith
among_within key (v ∷ vs) =
    either_within (is_lt (ctap2_order key v.items)) (place_among key (map (λ k. k.items) vs)) (length vs)
    (among_within key vs)

module _ (ps : List (Value × Value)) (vs : List (Vec ℕ Global)) (key : List ℕ)
    (are : AreKeysOf (map pair_of ps) (map (λ k. k.items) vs)) where
  among_is : place_among key (map (λ k. k.items) vs) ≡ place_in key (map pair_of ps)
  among_is = ap (place_among key) are ∙ place_by_keys key (map pair_of ps)

  pub members_within : place_among key (map (λ k. k.items) vs) ≤ length ps
  members_within = rw among_is (place_within pair_of key ps)

  module _ (p : Value × Value) (is : key ≡ written (item_of p.0)) where
    pub placed_by_keys : map pair_of (insert ps (place_among key (map (λ k. k.items) vs)) p)
        ≡ placed (pair_of p) (map pair_of ps)
    placed_by_keys =
        inserted pair_of ps (place_among key (map (λ k. k.items) vs)) p
        ∙ ap (λ n. take n (map pair_of ps) ++ pair_of p ∷ drop n (map pair_of ps))
        (among_is ∙ ap (λ k. place_in k (map pair_of ps)) is)

    pub keyed_by_keys : (v : Vec ℕ Global) → v.items ≡ key
        → AreKeysOf (map pair_of (insert ps (place_among key (map (λ k. k.items) vs)) p))
        (map (λ k. k.items) (insert vs (place_among key (map (λ k. k.items) vs)) v))
    keyed_by_keys v same =
        let n = place_among key (map (λ k. k.items) vs) in
        let keys : Members → List (List ℕ) = λ ms. map (λ m. written m.0) ms in
        inserted (λ k. k.items) vs n v
        ∙ ap (λ ks. take n ks ++ v.items ∷ drop n ks) are
        ∙ ap (λ k. take n (keys (map pair_of ps)) ++ k ∷ drop n (keys (map pair_of ps))) (same ∙ is)
        ∙ sym (inserted (λ m. written m.0) (map pair_of ps) n (pair_of p))
        ∙ sym (ap keys (inserted pair_of ps n p))
