-- Data items without others in them, which are skipped at once.
use Rattle.std.proofs.Common.{◌≡◌, ℕ, suc, ◌+◌, ◌<◌, ◌≤◌, Bool, true, false, List, ◌∷◌, length, take, drop, Option, Some, refl, sym, ap, ◌∙◌, arith, ◌⊎◌, inl, inr}
use Rattle.std.proofs.lemmas.Bool.{cases_lt, lt-ltb, le-ltb}
use Rattle.std.proofs.lemmas.List.{length-drop, drop-drop}
use Rattle.passkey_cbor.specs.HeadReading.{◌>>=◌, Read, head_at}
use Rattle.passkey_cbor.specs.Item.{Item}
use Rattle.passkey_cbor.specs.HeadCount.{content_len, after_content, after_heads}
use Rattle.passkey_cbor.specs.HeadsDecoded.{Tally, item_heads_by, item_heads}
use Rattle.passkey_cbor.specs.Leaf.{Headed, IsLeafLen}
use Rattle.passkey_cbor.specs.Lent.{string_item, string_head}
use Rattle.passkey_cbor.specs.Reading.{Reader, start, is_allowed, piece_at, item_by, item_within}
use Rattle.passkey_cbor.specs.Steps.{PassesOver}
use Rattle.passkey_cbor.specs.CursorState.{CursorState, ahead, raised, IsInside}
use Rattle.passkey_cbor.specs.declared.head.Head.{Head}
use Rattle.passkey_cbor.proofs.skipping.After.{by_flat, by_string, string_piece}
use Rattle.passkey_cbor.proofs.items.Binds.{none_is_some, bind_at}
use Rattle.passkey_cbor.proofs.heads.HeadCounts.{content_there, one_head, one_spans}
use Rattle.passkey_cbor.proofs.heads.HeadsDecoded.{started, flat_heads, headed_string}

-- the only head of a data item, and the content after it
leaf_head : (bytes rest following : List ℕ) (n : ℕ) (h : Head) → head_at bytes ≡ Some (h, rest) → content_len h ≡ n
    → n ≤ length rest → drop n rest ≡ following → after_heads 1 bytes ≡ Some following
leaf_head bytes rest following n h e content within is = one_head bytes rest following h e
    (ap (λ (k : ℕ). after_content k rest) content ∙ content_there n rest within ∙ ap (λ (r : List ℕ). Some r) is)

-- a head that is the whole data item
pub flat_leaf : (bytes rest : List ℕ) (k : ℕ) (g h : Head) (x : Item) → Headed bytes k g rest → g ≡ h
    → content_len h ≡ 0 → ((inner : Option (Reader Item)) → item_by inner h rest ≡ Some (x, rest))
    → ((inner : Option (Reader Item × Tally)) → item_heads_by inner h rest ≡ 0) → IsLeafLen bytes k
flat_leaf bytes rest k g h x e same none flat alone = record {
  leaf = x;
  one = leaf_head bytes rest rest 0 g e.reads (ap content_len same ∙ none) (omega arith) refl
      ∙ ap (λ (r : List ℕ). Some r) (sym e.parts);
  reads = λ levels. bind_at (head_at bytes) (g, rest) (λ q. item_within levels q.0 q.1) e.reads
      ∙ by_flat levels g h x rest same flat ∙ ap (λ (r : List ℕ). Some (x, r)) (sym e.parts);
  heads = λ levels. started (item_heads levels) bytes rest g e.reads ∙ ap suc (flat_heads levels g h rest same alone);
  within = e.within;
}

-- the content of a string of definite length
pub piece_there : (is_text : Bool) (n : ℕ) (bytes : List ℕ) → n ≤ length bytes
    → is_allowed is_text (take n bytes) ≡ true → piece_at is_text n bytes ≡ Some (take n bytes, drop n bytes)
unfolding piece_at
piece_there is_text n bytes within allowed = rw (le-ltb (length bytes) n within, allowed) refl

piece_within : (is_text : Bool) (n : ℕ) (bytes : List ℕ) (y : List ℕ × List ℕ) → piece_at is_text n bytes ≡ Some y
    → n ≤ length bytes
unfolding piece_at
piece_within is_text n bytes y e = by_test (cases_lt (length bytes) n) where
  by_test : (length bytes < n) ⊎ (n ≤ length bytes) → n ≤ length bytes
  by_test (inl lt) = absurd (none_is_some y (rw (lt-ltb (length bytes) n lt) at e))
  by_test (inr le) = le

string_content : (is_text : Bool) (len : ℕ) → content_len (string_head is_text (Some len)) ≡ len
string_content false len = refl
string_content true len = refl

-- a string of definite length
pub string_leaf : (bytes rest : List ℕ) (k : ℕ) (is_text : Bool) (len n : ℕ) (g : Head) → Headed bytes k g rest
    → g ≡ string_head is_text (Some len) → piece_at is_text len rest ≡ Some (take len rest, drop len rest)
    → n ≡ k + len → IsLeafLen bytes n
string_leaf bytes rest k is_text len n g e same piece size =
    let after : drop len rest ≡ drop n bytes =
    ap (drop len) (sym e.parts) ∙ drop-drop len k bytes ∙ ap (λ (m : ℕ). drop m bytes) (sym size) in
    let within : len ≤ length rest = piece_within is_text len rest (take len rest, drop len rest) piece in
    record {
      leaf = string_item is_text (take len rest);
      one = leaf_head bytes rest (drop n bytes) len g e.reads (ap content_len same ∙ string_content is_text len) within
          after;
      reads = λ levels. bind_at (head_at bytes) (g, rest) (λ q. item_within levels q.0 q.1) e.reads
          ∙ by_string levels is_text (Some len) g rest same
          ∙ ap (λ (o : Read (List ℕ)). o >>= λ t. Some (string_item is_text t.0, t.1))
          (string_piece is_text (Some len) len rest refl ∙ piece)
          ∙ ap (λ (r : List ℕ). Some (string_item is_text (take len rest), r)) after;
      heads = λ levels. started (item_heads levels) bytes rest g e.reads
          ∙ ap suc (headed_string levels is_text (Some len) g rest same);
      within = omega (arith, within, size, ap length e.parts, length-drop k bytes, e.within);
    }

-- the first byte is the head
pub headed_one : (bytes : List ℕ) (b : ℕ) (rest : List ℕ) (h : Head) → bytes ≡ b ∷ rest
    → head_at (b ∷ rest) ≡ Some (h, rest) → Headed bytes 1 h rest
headed_one bytes b rest h is e = rw is (record { reads = e; parts = refl; within = omega arith })

-- the first two bytes are the head
pub headed_two : (b a : ℕ) (following rest : List ℕ) (h : Head) → following ≡ a ∷ rest
    → head_at (b ∷ (a ∷ rest)) ≡ Some (h, rest) → Headed (b ∷ following) 2 h rest
headed_two b a following rest h next e = rw next (record { reads = e; parts = refl; within = omega arith })

-- a cursor that passes such an item
pub leaf_passed : (a b : CursorState) (levels n : ℕ) → IsInside a → 0 < n → IsLeafLen (ahead a) n
    → b ≡ record a { place = a.place + n; heads = raised a.heads 1 } → a.heads ≤ b.heads
    → PassesOver 0 (start (item_within levels) (ahead a)) a b
leaf_passed a b levels n inside some l is rises =
    let place : b.place ≡ a.place + n = ap (λ (w : CursorState). w.place) is in
    let heads : b.heads ≡ raised a.heads 1 = ap (λ (w : CursorState). w.heads) is in
    let same : b.bytes ≡ a.bytes = ap (λ (w : CursorState). w.bytes) is in
    let after : drop n (ahead a) ≡ ahead b = drop-drop n a.place a.bytes ∙ ap (λ (k : ℕ). drop k a.bytes) (sym place)
    ∙ ap (drop b.place) (sym same) in
    record {
      value = l.leaf;
      reads = l.reads levels ∙ ap (λ (r : List ℕ). Some (l.leaf, r)) after;
      spans = one_spans a b (l.one ∙ ap (λ (r : List ℕ). Some r) after) heads;
      passed = record {
        same = same;
        within = omega (arith, place, l.within, inside, length-drop a.place a.bytes, ap length same);
        forward = omega (arith, place);
        rises = rises;
        heads = omega (arith, place, heads, some);
        nodes = ap (λ (w : CursorState). w.nodes) is;
      };
    }
