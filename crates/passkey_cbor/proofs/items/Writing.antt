-- Writing the items of an array and the pairs of a map, one after the other.
use Rattle.std.proofs.Common.{◌≡◌, ℕ, suc, ◌+◌, ◌<◌, ◌^◌, List, ◌∷◌, ◌++◌, length, get_or, map, drop, drop-cons, sym, ap, ◌∙◌, arith, append_assoc}
use Rattle.std.proofs.Math.Numerals.{add-one}
use Rattle.std.proofs.lemmas.List.{length-map}
use Rattle.passkey_cbor.specs.Item as spec
use Rattle.passkey_cbor.specs.Item.{Item, Items, Pairs, item, pair, no_items, no_pairs, items_of, pairs_of}
use Rattle.passkey_cbor.specs.Encoding.{items_len, pairs_len}
use Rattle.passkey_cbor.specs.View.{pair_of, pairs_view}
use Rattle.passkey_cbor.specs.Written.{shortest_head, written, items_written, pairs_written}
use Rattle.passkey_cbor.specs.Writable.{IsWritable, AreWritable, ArePairsWritable}
use Rattle.passkey_cbor.specs.declared.value.Value.{Value}
use Rattle.passkey_cbor.proofs.items.Items.{items_len-items_of, pairs_len-pairs_of}

-- the bytes so far and those still to be written are the whole, which is writable if the rest is
pub record WritesItems (all rest : Items) (old new : List ℕ) : Type 0 where
  pub appended : new ++ items_written rest ≡ old ++ written (spec.array all)
  pub writable : AreWritable rest → IsWritable (spec.array all)

pub record WritesPairs (all rest : Pairs) (old new : List ℕ) : Type 0 where
  pub appended : new ++ pairs_written rest ≡ old ++ written (spec.map all)
  pub writable : ArePairsWritable rest → IsWritable (spec.map all)

-- nothing but the head of an array of these elements
pub writes_items-begin : {X : Type 0} (tree : X → Item) (xs : List X) (old new : List ℕ) → length xs < 2 ^ 64
    → new ≡ old ++ shortest_head 4 (length xs)
    → WritesItems (items_of (map tree xs)) (items_of (map tree xs)) old new
writes_items-begin tree xs old new fits e =
    let all : Items = items_of (map tree xs) in
    let len : items_len all ≡ length xs = sym (items_len-items_of (map tree xs)) ∙ length-map xs tree in
    record {
      appended = ap (λ (s : List ℕ). s ++ items_written all) e
          ∙ append_assoc old (shortest_head 4 (length xs)) (items_written all)
          ∙ ap (λ (n : ℕ). old ++ (shortest_head 4 n ++ items_written all)) (sym len);
      writable = λ h. (omega (arith, len, fits), h);
    }

-- one more item
writes_items-more : (all rest : Items) (x : Item) (old now new : List ℕ) → new ≡ now ++ written x → IsWritable x
    → WritesItems all (item x rest) old now → WritesItems all rest old new
writes_items-more all rest x old now new e fits h = record {
  appended = ap (λ (s : List ℕ). s ++ items_written rest) e ∙ append_assoc now (written x) (items_written rest)
      ∙ h.appended;
  writable = λ others. h.writable (fits, others);
}

-- that of the element at an index
pub writes_items-more_at : {X : Type 0} (tree : X → Item) (xs : List X) (i : ℕ) (x : X) (all : Items)
    (old now new : List ℕ) → x ≡ get_or xs i x → i < length xs → new ≡ now ++ written (tree x) → IsWritable (tree x)
    → WritesItems all (items_of (map tree (drop i xs))) old now
    → WritesItems all (items_of (map tree (drop (i + 1) xs))) old new
writes_items-more_at tree xs i x all old now new is within e fits h =
    let rest : drop i xs ≡ x ∷ drop (i + 1) xs =
    rw add-one (drop-cons xs i x within ∙ ap (λ y. y ∷ drop (suc i) xs) (sym is)) in
    writes_items-more all _ (tree x) old now new e fits (rw rest at h)

-- nothing but the head of a map of these members
pub writes_pairs-begin : (ps : List (Value × Value)) (old new : List ℕ) → length ps < 2 ^ 64
    → new ≡ old ++ shortest_head 5 (length ps) → WritesPairs (pairs_view ps) (pairs_view ps) old new
writes_pairs-begin ps old new fits e =
    let len : pairs_len (pairs_view ps) ≡ length ps =
    sym (pairs_len-pairs_of (map pair_of ps)) ∙ length-map ps pair_of in
    record {
      appended = ap (λ (s : List ℕ). s ++ pairs_written (pairs_view ps)) e
          ∙ append_assoc old (shortest_head 5 (length ps)) (pairs_written (pairs_view ps))
          ∙ ap (λ (n : ℕ). old ++ (shortest_head 5 n ++ pairs_written (pairs_view ps))) (sym len);
      writable = λ h. (omega (arith, len, fits), h);
    }
