-- Building the value of the data item at a cursor, and of one that was skipped before.
use Rattle.std.proofs.Common.{◌≡◌, ℕ, ◌+◌, ◌-◌, ◌≤◌, List, [], ◌∷◌, drop, length, Some, Result, Ok, Err, sym, ap, subst, ◌∙◌, arith}
use Rattle.std.proofs.lemmas.List.{length-drop}
use Rattle.passkey_cbor.specs.Item.{Item, byte_string, array, map, items_of, pairs_of}
use Rattle.passkey_cbor.specs.Nodes.{nodes}
use Rattle.passkey_cbor.specs.LeadingItem.{max_depth, IsLeadingItem}
use Rattle.passkey_cbor.specs.Reading.{start, item_within}
use Rattle.passkey_cbor.specs.CursorState.{CursorState, ahead, raised, IsPlaced, MovesForward}
use Rattle.passkey_cbor.specs.EncodedAt.{IsEncodedAt, ValuedAhead, ValuesAhead}
use Rattle.passkey_cbor.specs.Skipped.{PassesLeadingItem}
use Rattle.passkey_cbor.specs.Building.{IsNotEmpty, Made, Makes, an_item}
use Rattle.passkey_cbor.specs.Valued.{MakesLeadingItem, ReadsValue}
use Rattle.passkey_cbor.specs.Grows.{Grows}
use Rattle.passkey_cbor.specs.View.{item_of}
use Rattle.passkey_cbor.specs.declared.value.Value.{Value}
use Rattle.passkey_cbor.specs.declared.error.CborError.{CborError}
use Rattle.passkey_cbor.specs.declared.error.CborError.TheVariants as error
use Rattle.passkey_cbor.proofs.items.EncodedFrom.{stands_front, front_stands}
use Rattle.passkey_cbor.proofs.heads.HeadCounts.{heads_passed}
use Rattle.passkey_cbor.proofs.items.LeadingItems.{front_again}
use Rattle.passkey_cbor.proofs.heads.Numbers.{IsBytes-drop}

-- ---- what isn't empty takes memory

pub grows_bytes : (s : List ℕ) → IsNotEmpty s → Grows (byte_string s)
grows_bytes [] h = h
grows_bytes (b ∷ s) h = tt

pub grows_array : (xs : List Item) → IsNotEmpty xs → Grows (array (items_of xs))
grows_array [] h = h
grows_array (x ∷ xs) h = tt

pub grows_map : (ms : List (Item × Item)) → IsNotEmpty ms → Grows (map (pairs_of ms))
grows_map [] h = h
grows_map (m ∷ ms) h = tt

-- ---- the data item that is encoded at the cursor

-- it is the one that is decoded
item_reads : (x : Item) (a : CursorState) (to : ℕ) → IsEncodedAt x a.bytes a.place to
    → start (item_within max_depth) (ahead a) ≡ Some (x, drop (to - a.place) (ahead a))
item_reads x a to l = front_again (ahead a) x (to - a.place) (stands_front x a.bytes a.place to l)

-- at most one head for each byte of it
one_head : (x : Item) (to : ℕ) (a b : CursorState) (result : Result Value CborError)
    → IsEncodedAt x a.bytes a.place to → Makes an_item 0 (start (item_within max_depth) (ahead a)) a b result
    → b.heads + a.place ≤ a.heads + to
one_head x to a b result l m =
    let front = stands_front x a.bytes a.place to l in
    omega (
      arith,
      m.heads x (drop (to - a.place) (ahead a)) (item_reads x a to l),
      length-drop (to - a.place) (ahead a),
      front.within,
      l.forward,
    )

pub made_ahead : (x : Item) (to : ℕ) (a b : CursorState) (v : Value) → IsPlaced a.bytes a.place
    → Makes an_item 0 (start (item_within max_depth) (ahead a)) a b (Ok v) → IsEncodedAt x a.bytes a.place to
    → ValuedAhead x to a b v
made_ahead x to a b v placed m l =
    let len : ℕ = to - a.place in
    let front = stands_front x a.bytes a.place to l in
    let k = m.made x (drop len (ahead a)) (item_reads x a to l) in
    let size : len + length (ahead b) ≡ length (ahead a) =
    omega (arith, ap length k.1, length-drop len (ahead a), front.within) in
    record {
      value = k.0;
      place = omega (
        arith,
        size,
        ap length m.moves.same,
        m.moves.within,
        m.moves.forward,
        l.forward,
        l.within,
        length-drop a.place a.bytes,
        length-drop b.place b.bytes,
      );
      counted = (heads_passed len a b (IsBytes-drop a.place a.bytes placed.fits) size m.spans).counted;
      heads = one_head x to a b (Ok v) l m;
      nodes = k.2;
      bytes = m.moves.same;
    }

-- the cursor goes back to where it was
pub fails_ahead : (x : Item) (to : ℕ) (a b c : CursorState) (e : CborError)
    → Makes an_item 0 (start (item_within max_depth) (ahead a)) a b (Err e) → c ≡ record b { place = a.place }
    → IsEncodedAt x a.bytes a.place to → ValuesAhead x to a c (Err e)
fails_ahead x to a b c e m back l =
    by_error e (one_head x to a b (Err e) l m) (m.made x (drop (to - a.place) (ahead a)) (item_reads x a to l)) where
      by_error : (e : CborError) → b.heads + a.place ≤ a.heads + to
          → Made an_item x (drop (to - a.place) (ahead a)) a b (Err e) → ValuesAhead x to a c (Err e)
      by_error error.DecodeFailed heads k = absurd k
      by_error error.OutOfMemory heads k = record {
        grows = k.0;
        place = ap (λ (w : CursorState). w.place) back;
        least = omega (arith, m.moves.heads, ap (λ (w : CursorState). w.heads) back);
        heads = omega (arith, heads, ap (λ (w : CursorState). w.heads) back);
        least_nodes = omega (arith, m.moves.nodes, ap (λ (w : CursorState). w.nodes) back);
        nodes = omega (arith, k.1, ap (λ (w : CursorState). w.nodes) back);
        bytes = ap (λ (w : CursorState). w.bytes) back ∙ m.moves.same;
      }
      by_error error.OutOfRangeIntegerValue heads k = absurd k

-- ---- the cursor skipped the data item and went back

-- it is encoded there
pub back_encoded : (a b c : CursorState) (p : PassesLeadingItem a b) → c ≡ record b { place = a.place }
    → IsEncodedAt p.item c.bytes c.place (c.place + p.len)
back_encoded a b c p e =
    let same : ahead c ≡ ahead a = ap ahead e ∙ ap (λ (bytes : List ℕ). drop a.place bytes) p.bytes in
    front_stands p.item c.bytes c.place p.len
    (subst (λ (bytes : List ℕ). IsLeadingItem bytes p.item p.len) (sym same) p.front)

value_made : (a b c d : CursorState) (v : Value) (p : PassesLeadingItem a b) → c ≡ record b { place = a.place }
    → MovesForward c d → ValuedAhead p.item (c.place + p.len) c d v → MakesLeadingItem a d (item_of v)
value_made a b c d v p e moves k =
    subst (MakesLeadingItem a d) (sym k.value) (record {
      len = p.len;
      front = p.front;
      place = omega (arith, k.place, ap (λ (w : CursorState). w.place) e);
      whole = p.whole;
      all = omega (arith, p.counted, ap (λ (w : CursorState). w.heads) e, moves.heads);
      least = omega (arith, p.least, ap (λ (w : CursorState). w.heads) e, moves.heads);
      heads = omega (arith, k.heads, p.heads, ap (λ (w : CursorState). w.heads) e);
      nodes = k.nodes
          ∙ ap (λ (n : ℕ). raised n (nodes p.item)) (ap (λ (w : CursorState). w.nodes) e ∙ p.nodes);
      bytes = k.bytes ∙ ap (λ (w : CursorState). w.bytes) e ∙ p.bytes;
    })

value_fails : (a b c d : CursorState) (x : CborError) (p : PassesLeadingItem a b) → c ≡ record b { place = a.place }
    → MovesForward c d → ValuesAhead p.item (c.place + p.len) c d (Err x) → ReadsValue a d (Err x)
value_fails a b c d error.DecodeFailed p e moves k = absurd k
value_fails a b c d error.OutOfMemory p e moves k = record {
  item = p.item;
  len = p.len;
  front = p.front;
  grows = k.grows;
  place = k.place ∙ ap (λ (w : CursorState). w.place) e;
  all = omega (arith, p.counted, ap (λ (w : CursorState). w.heads) e, moves.heads);
  least = omega (arith, p.least, ap (λ (w : CursorState). w.heads) e, moves.heads);
  heads = omega (arith, k.heads, p.heads, ap (λ (w : CursorState). w.heads) e);
  least_nodes = omega (arith, k.least_nodes, p.nodes, ap (λ (w : CursorState). w.nodes) e);
  nodes = omega (arith, k.nodes, p.nodes, ap (λ (w : CursorState). w.nodes) e);
  bytes = k.bytes ∙ ap (λ (w : CursorState). w.bytes) e ∙ p.bytes;
}
value_fails a b c d error.OutOfRangeIntegerValue p e moves k = absurd k

pub value_from : (a b c d : CursorState) (result : Result Value CborError) (p : PassesLeadingItem a b)
    → c ≡ record b { place = a.place } → MovesForward c d → ValuesAhead p.item (c.place + p.len) c d result
    → ReadsValue a d result
value_from a b c d (Ok v) p e moves k = value_made a b c d v p e moves k
value_from a b c d (Err x) p e moves k = value_fails a b c d x p e moves k
