-- How many data items are built.
use Rattle.std.proofs.Common.{◌≡◌, ◌⊎◌, ℕ, ◌+◌, ◌-◌, ◌<◌, ◌≤◌, min, ◌^◌, List, [], ◌∷◌, length, Result, Ok, Err, refl, sym, ap, ◌∙◌, arith, inl, inr}
use Rattle.std.proofs.lemmas.Bool.{cases_eq, cases_lt, lt-ltb, le-ltb, ne_eqb}
use Rattle.passkey_cbor.specs.Item.{Item, number, array, map, tagged, items_of, pairs_of}
use Rattle.passkey_cbor.specs.Nodes.{nodes, items_nodes, pairs_nodes}
use Rattle.passkey_cbor.specs.HeadReading.{◌>>=◌, Read}
use Rattle.passkey_cbor.specs.HeadCount.{after_content, after_heads, Spans}
use Rattle.passkey_cbor.specs.Reading.{simple_item}
use Rattle.passkey_cbor.specs.CursorState.{CursorState, ahead, raised}
use Rattle.passkey_cbor.specs.Building.{total, an_item, a_counted_item, a_pair, Made, Makes}
use Rattle.passkey_cbor.specs.declared.value.Value.{Value}
use Rattle.passkey_cbor.specs.declared.error.CborError.{CborError}
use Rattle.passkey_cbor.proofs.building.Gathering.{ok_then, fails_within}
use Rattle.passkey_cbor.proofs.heads.Raised.{raised-raised}

nodes-pos : (x : Item) → 1 ≤ nodes x
nodes-pos (number z) = omega arith
nodes-pos _ = omega arith

items_nodes-items_of : (xs : List Item) → items_nodes (items_of xs) ≡ total nodes xs
items_nodes-items_of [] = refl
items_nodes-items_of (x ∷ xs) = ap (λ (k : ℕ). nodes x + k) (items_nodes-items_of xs)

pairs_nodes-pairs_of : (ms : List (Item × Item)) → pairs_nodes (pairs_of ms) ≡ total a_pair.size ms
pairs_nodes-pairs_of [] = refl
pairs_nodes-pairs_of (m ∷ ms) = ap (λ (k : ℕ). (nodes m.0 + nodes m.1) + k) (pairs_nodes-pairs_of ms)

-- ---- the data items inside a data item

pub array_size : (xs : List Item) → nodes (array (items_of xs)) - 1 ≡ total nodes xs
array_size xs = omega (arith, items_nodes-items_of xs)

pub map_size : (ms : List (Item × Item)) → nodes (map (pairs_of ms)) - 1 ≡ total a_pair.size ms
map_size ms = omega (arith, pairs_nodes-pairs_of ms)

pub tag_size : (t : ℕ) (x : Item) → nodes (tagged t x) - 1 ≡ nodes x
tag_size t x = omega arith

simple_nodes : (n : ℕ) → nodes (simple_item n) ≡ 1
simple_nodes n = by_20 (cases_lt n 20) where
  by_24 : 22 ≤ n → (n < 24) ⊎ (24 ≤ n) → nodes (simple_item n) ≡ 1
  by_24 le (inl lt) = rw (
    le-ltb n 20 (omega arith),
    ne_eqb n 20 (λ (q : n ≡ 20). omega arith),
    ne_eqb n 21 (λ (q : n ≡ 21). omega arith),
    lt-ltb n 24 lt,
  ) refl
  by_24 le (inr ge) = rw (
    le-ltb n 20 (omega arith),
    ne_eqb n 20 (λ (q : n ≡ 20). omega arith),
    ne_eqb n 21 (λ (q : n ≡ 21). omega arith),
    le-ltb n 24 ge,
  ) refl

  by_21 : 20 ≤ n → (n ≡ 20 → ⊥) → (n ≡ 21) ⊎ (n ≡ 21 → ⊥) → nodes (simple_item n) ≡ 1
  by_21 le ne (inl q) = ap (λ (k : ℕ). nodes (simple_item k)) q
  by_21 le ne (inr other) = by_24 (omega (arith, le, ne, other)) (cases_lt n 24)

  by_20 : (n < 20) ⊎ (20 ≤ n) → nodes (simple_item n) ≡ 1
  by_20 (inl lt) = rw (lt-ltb n 20 lt) refl
  by_20 (inr le) = elim (cases_eq n 20)
      [ inl q ↦ ap (λ (k : ℕ). nodes (simple_item k)) q | inr ne ↦ by_21 le ne (cases_eq n 21) ]

pub simple_size : (n : ℕ) → nodes (simple_item n) - 1 ≡ 0
simple_size n = omega (arith, simple_nodes n)

-- ---- a data item is counted once

-- one more data item was counted
abbrev pub one_more : CursorState → CursorState
one_more a = record a { heads = min (a.heads + 0) (2 ^ 128 - 1); nodes = min (a.nodes + 1) (2 ^ 128 - 1) }

counted : (x : Item) (rest : List ℕ) (a b c : CursorState) (result : Result Value CborError) → b ≡ one_more a
    → Made a_counted_item x rest b c result → Made an_item x rest a c result
counted x rest a b c (Ok v) e k =
    let up : b.nodes ≡ raised a.nodes 1 = ap (λ (w : CursorState). w.nodes) e in
    let sum : 1 + (nodes x - 1) ≡ nodes x = omega (arith, nodes-pos x) in (
      k.0,
      k.1,
      k.2 ∙ ap (λ (n : ℕ). raised n (nodes x - 1)) up ∙ raised-raised a.nodes 1 (nodes x - 1)
          ∙ ap (raised a.nodes) sum,
    )
counted x rest a b c (Err f) e k =
    let up : b.nodes ≡ min (a.nodes + 1) (2 ^ 128 - 1) = ap (λ (w : CursorState). w.nodes) e in
    fails_within a_counted_item an_item x x rest rest a b c f (λ t. t) (omega (arith, up, nodes-pos x)) k

-- what was passed since then was passed before, too
spanned_once : (content : ℕ) (a b c : CursorState) → b ≡ one_more a → a.heads ≤ b.heads → Spans content b c
    → Spans content a c
spanned_once content a b c e heads s =
    let heads_are : b.heads ≡ a.heads = omega (arith, heads, ap (λ (w : CursorState). w.heads) e) in
    let ahead_is : ahead b ≡ ahead a = ap ahead e in
    record {
      number = s.number;
      reads = ap (λ (t : List ℕ). after_content content t >>= after_heads s.number) (sym ahead_is) ∙ s.reads;
      counted = s.counted ∙ ap (λ (n : ℕ). raised n s.number) heads_are;
    }

pub counted_once : (content : ℕ) (read : Read Item) (a b c : CursorState) (result : Result Value CborError)
    → b ≡ one_more a → a.heads ≤ b.heads → a.nodes ≤ b.nodes → Makes a_counted_item content read b c result
    → Makes an_item content read a c result
counted_once content read a b c result e heads nodes k =
    let bytes_are : b.bytes ≡ a.bytes = ap (λ (w : CursorState). w.bytes) e in
    let place_is : b.place ≡ a.place = ap (λ (w : CursorState). w.place) e in
    record {
      spans = ok_then result (spanned_once content a b c e heads) k.spans;
      moves = record {
        same = k.moves.same ∙ bytes_are;
        within = k.moves.within;
        forward = omega (arith, k.moves.forward, place_is);
        heads = omega (arith, k.moves.heads, heads);
        nodes = omega (arith, k.moves.nodes, nodes);
      };
      made = λ x rest f. counted x rest a b c result e (k.made x rest f);
      heads = λ x rest f. omega
          (arith, k.heads x rest f, ap (λ (w : CursorState). w.heads) e, ap (λ (w : CursorState). length (ahead w)) e);
    }
