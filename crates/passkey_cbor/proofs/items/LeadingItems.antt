-- Decoding finds exactly the leading data item.
use Rattle.std.proofs.Common.{◌≡◌, ℕ, ◌+◌, ◌-◌, ◌≤◌, List, length, take, drop, Option, Some, None, refl, sym, ap, subst, ◌∙◌, arith}
use Rattle.std.proofs.lemmas.List.{length-append, length-drop, length-take, take-append-drop, take-take, take_at, drop_at}
use Rattle.passkey_cbor.specs.Bytes.{IsBytes}
use Rattle.passkey_cbor.specs.Item.{Item}
use Rattle.passkey_cbor.specs.Encoding.{IsEncoding}
use Rattle.passkey_cbor.specs.LeadingItem.{max_depth, IsLeadingItem, HasNoLeadingItem}
use Rattle.passkey_cbor.specs.LeadingItemAt.{leading_item_at, IsLeadingItemOf}
use Rattle.passkey_cbor.specs.Laws.{AtMostOneLeadingItem, NoShorterLeadingItem, LeadingItemIsFound, FoundIsLeadingItem}
use Rattle.passkey_cbor.specs.Reading.{start, item_within}
use Rattle.passkey_cbor.specs.CursorState.{CursorState, ahead, raised, IsPlaced}
use Rattle.passkey_cbor.specs.Steps.{NoHead, PassesOver}
use Rattle.passkey_cbor.specs.HeadsDecoded.{heads_decoded}
use Rattle.passkey_cbor.specs.Skipped.{PassesLeadingItem, FindsNoLeadingItem}
use Rattle.passkey_cbor.proofs.items.Binds.{some_is, none_is_some}
use Rattle.passkey_cbor.proofs.heads.Numbers.{IsBytes-drop}
use Rattle.passkey_cbor.proofs.items.Lists.{Follows}
use Rattle.passkey_cbor.proofs.items.Items.{follows_item}
use Rattle.passkey_cbor.proofs.heads.HeadCounts.{heads_passed}

-- a leading data item is decoded
pub front_again : (bytes : List ℕ) (x : Item) (k : ℕ) → IsLeadingItem bytes x k
    → start (item_within max_depth) bytes ≡ Some (x, drop k bytes)
front_again bytes x k f =
    let all : Follows _ (item_within max_depth) = follows_item max_depth in
    ap (start (item_within max_depth)) (sym (take-append-drop k bytes))
    ∙ all.again x (take k bytes) (drop k bytes) (f.shallow, f.encoded)

-- what is decoded is the leading data item
pub front_taken : (bytes : List ℕ) (x : Item) (u : List ℕ) (k : ℕ) → IsBytes bytes → k + length u ≡ length bytes
    → start (item_within max_depth) bytes ≡ Some (x, u) → IsLeadingItem bytes x k
front_taken bytes x u k fits size e =
    let all : Follows _ (item_within max_depth) = follows_item max_depth in
    let t = all.takes x bytes u fits e in
    let long : length t.text ≡ k = omega (arith, size, ap length t.parts, length-append t.text u) in
    record {
      within = omega (arith, size);
      encoded = subst (IsEncoding x) (sym (ap (take k) t.parts ∙ take_at t.text u k long)) t.encoded.1;
      shallow = t.encoded.0;
    }

-- if decoding fails, there is no leading data item
pub no_front : (bytes : List ℕ) → start (item_within max_depth) bytes ≡ None → HasNoLeadingItem bytes
no_front bytes e x k f = none_is_some (x, drop k bytes) (sym e ∙ front_again bytes x k f)

pub front_given : LeadingItemIsFound
unfolding leading_item_at
front_given = front_again

pub given_front : FoundIsLeadingItem
unfolding leading_item_at
given_front bytes fits = by_reading (start (item_within max_depth) bytes) refl where
  by_reading : (o : Option (Item × List ℕ)) → start (item_within max_depth) bytes ≡ o → IsLeadingItemOf bytes o
  by_reading None e = no_front bytes e
  by_reading (Some r) e =
      let all : Follows _ (item_within max_depth) = follows_item max_depth in
      let t = all.takes r.0 bytes r.1 fits e in
      let size : length t.text + length r.1 ≡ length bytes =
      omega (arith, ap length t.parts, length-append t.text r.1) in
      record {
        len = length t.text;
        front = front_taken bytes r.0 r.1 (length t.text) fits size e;
        following = sym (ap (drop (length t.text)) t.parts ∙ drop_at t.text r.1 (length t.text) refl);
      }

pub at_most_one : AtMostOneLeadingItem
at_most_one bytes x y j k f g =
    let same =
    some_is (x, drop j bytes) (y, drop k bytes) (sym (front_again bytes x j f) ∙ front_again bytes y k g) in
    let rests : drop j bytes ≡ drop k bytes = ap (λ (p : Item × List ℕ). p.1) same in (
      ap (λ (p : Item × List ℕ). p.0) same,
      omega (arith, f.within, g.within, ap length rests, length-drop j bytes, length-drop k bytes),
    )

-- the leading data item of a prefix is that of the whole
front_of_longer : (bytes : List ℕ) (j : ℕ) (x : Item) (k : ℕ) → IsLeadingItem (take j bytes) x k
    → (k ≤ j) × IsLeadingItem bytes x k
front_of_longer bytes j x k f =
    let within : k ≤ j = omega (arith, f.within, length-take j bytes) in (
      within,
      record {
        within = omega (arith, f.within, length-take j bytes);
        encoded = subst (IsEncoding x) (take-take k j bytes within) f.encoded;
        shallow = f.shallow;
      },
    )

pub no_shorter : NoShorterLeadingItem
no_shorter bytes x k j f lt y l g =
    let longer = front_of_longer bytes j y l g in
    let same = at_most_one bytes x y k l f longer.1 in
    omega (arith, same.1, longer.0, lt)

-- ---- skipping the leading data item

pub front_passed : (a b : CursorState) → IsPlaced a.bytes a.place → raised a.heads 1 ≤ b.heads
    → PassesOver 0 (start (item_within max_depth) (ahead a)) a b → PassesLeadingItem a b
front_passed a b placed least p =
    let long : length b.bytes ≡ length a.bytes = ap length p.passed.same in
    let size : (b.place - a.place) + length (ahead b) ≡ length (ahead a) =
    omega (
      arith,
      long,
      p.passed.forward,
      p.passed.within,
      length-drop a.place a.bytes,
      length-drop b.place b.bytes,
    ) in
    let fits = IsBytes-drop a.place a.bytes placed.fits in
    let heads = heads_passed (b.place - a.place) a b fits size p.spans in
    record {
      item = p.value;
      len = b.place - a.place;
      front = front_taken (ahead a) p.value (ahead b) (b.place - a.place) fits size p.reads;
      place = omega (arith, p.passed.forward);
      whole = heads.whole;
      counted = heads.counted;
      least = least;
      heads = omega (arith, p.passed.forward, p.passed.heads);
      nodes = p.passed.nodes;
      bytes = p.passed.same;
    }

pub front_missed : (a b : CursorState) (place : ℕ) → place ≡ a.place → b.heads ≡ raised a.heads (heads_decoded (ahead a))
    → raised a.heads 1 ≤ b.heads → NoHead (start (item_within max_depth) (ahead a)) a b
    → FindsNoLeadingItem a (record b { place = place })
front_missed a b place back decoded least n = record {
  none = no_front (ahead a) n.reads;
  decoded = decoded;
  place = back;
  least = least;
  heads = n.stopped.heads;
  nodes = n.stopped.nodes;
  bytes = n.stopped.same;
}
