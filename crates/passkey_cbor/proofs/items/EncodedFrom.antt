-- Data items encoded at an offset: as leading data items, by their heads, and for the calls of a cursor.
use Rattle.std.proofs.Common.{◌≡◌, ℕ, ◌+◌, ◌-◌, ◌<◌, ◌≤◌, pos, negsuc, Bool, true, false, List, [], ◌++◌, length, take, drop, Option, Some, None, Result, Ok, Err, refl, sym, ap, subst, ◌∙◌, append_assoc, arith, inl, inr}
use Rattle.std.proofs.lemmas.List.{length-append, length-drop, length-take, append-nil, take_at, take-append-drop, drop-drop}
use Rattle.passkey_cbor.specs.Item.{Item, number, byte_string, text_string, array, map, tagged, boolean, null, simple, float, elements, members}
use Rattle.passkey_cbor.specs.Nodes.{nodes}
use Rattle.passkey_cbor.specs.Languages.{Language}
use Rattle.passkey_cbor.specs.Encoding.{IsEncoding, IsEncodingOfItems, IsEncodingOfPairs, items_len, pairs_len}
use Rattle.passkey_cbor.specs.LeadingItem.{max_depth, IsLeadingItem}
use Rattle.passkey_cbor.specs.Grows.{Grows}
use Rattle.passkey_cbor.specs.View.{item_of}
use Rattle.passkey_cbor.specs.HeadEncoding.{IsEncodingOfHead}
use Rattle.passkey_cbor.specs.HeadReading.{head_at}
use Rattle.passkey_cbor.specs.Reading.{simple_item, item_within}
use Rattle.passkey_cbor.specs.Inside.{Within, PairWithin, Inside}
use Rattle.passkey_cbor.specs.CursorState.{CursorState, ahead, raised}
use Rattle.passkey_cbor.specs.HeadCount.{heads_of}
use Rattle.passkey_cbor.specs.Found.{FindsHead}
use Rattle.passkey_cbor.specs.Skipped.{SkipsLeadingItem}
use Rattle.passkey_cbor.specs.Valued.{ReadsValue}
use Rattle.passkey_cbor.specs.EncodedAt.{Lies, IsEncodedAt, Opens, Passes, Values}
use Rattle.passkey_cbor.specs.declared.head.Head.{Head}
use Rattle.passkey_cbor.specs.declared.head.Head.TheVariants as head
use Rattle.passkey_cbor.specs.declared.value.Value.{Value}
use Rattle.passkey_cbor.specs.declared.error.CborError.{CborError}
use Rattle.passkey_cbor.specs.declared.error.CborError.TheVariants as error
use Rattle.passkey_cbor.proofs.items.Binds.{some_is}
use Rattle.passkey_cbor.proofs.heads.HeadAgain.{head_again}
use Rattle.passkey_cbor.proofs.strings.Strings.{string_headed}
use Rattle.passkey_cbor.proofs.items.Lists.{encoded_long}
use Rattle.passkey_cbor.proofs.items.Items.{follows_item, items_of-elements, pairs_of-members, length-elements, length-members, each_element, each_member, listed_headed, low_simple, high_simple}
use Rattle.passkey_cbor.proofs.items.LeadingItems.{at_most_one}

-- ---- leading data items

-- the length of the bytes from one offset to the other
pub lies_size : (P : Language) (bytes : List ℕ) (from to : ℕ) (l : Lies P bytes from to) → from + length l.text ≡ to
lies_size P bytes from to l =
    omega (
      arith,
      l.forward,
      l.within,
      length-drop from bytes,
      length-drop to bytes,
      length-append l.text (drop to bytes),
      ap length l.parts,
    )

pub stands_front : (x : Item) (bytes : List ℕ) (from to : ℕ) → IsEncodedAt x bytes from to
    → IsLeadingItem (drop from bytes) x (to - from)
stands_front x bytes from to l =
    let size : length l.text ≡ to - from = omega (arith, lies_size (Within max_depth x) bytes from to l) in
    record {
      within = omega (arith, l.within, l.forward, length-drop from bytes);
      encoded = subst (IsEncoding x)
          (sym (ap (take (to - from)) l.parts ∙ take_at l.text (drop to bytes) (to - from) size)) l.encoded.1;
      shallow = l.encoded.0;
    }

-- no data item is empty
pub front_long : (x : Item) (bytes : List ℕ) (len : ℕ) → IsLeadingItem bytes x len → 0 < len
front_long x bytes len f = omega (
  arith,
  encoded_long (Within max_depth) (item_within max_depth) (follows_item max_depth) x (take len bytes)
      (f.shallow, f.encoded),
  length-take len bytes,
)

-- the leading data item at an offset is encoded there
pub front_stands : (x : Item) (bytes : List ℕ) (place len : ℕ) → IsLeadingItem (drop place bytes) x len
    → IsEncodedAt x bytes place (place + len)
front_stands x bytes place len f = record {
  text = take len (drop place bytes);
  encoded = (f.shallow, f.encoded);
  parts = sym (take-append-drop len (drop place bytes))
      ∙ ap (λ (r : List ℕ). take len (drop place bytes) ++ r) (drop-drop len place bytes);
  forward = omega arith;
  within = omega (arith, f.within, length-drop place bytes, front_long x (drop place bytes) len f);
}

-- the leading data item at the offset is the one encoded there
pub only_one : (x y : Item) (bytes : List ℕ) (from to len : ℕ) → IsEncodedAt x bytes from to
    → IsLeadingItem (drop from bytes) y len → (y ≡ x) × (len ≡ to - from)
only_one x y bytes from to len s f =
    let same = at_most_one (drop from bytes) x y (to - from) len (stands_front x bytes from to s) f in
    (sym same.0, sym same.1)

-- ---- a data item is its head and what follows it

pub record Opened (x : Item) (t : List ℕ) : Type 0 where
  pub first : Head
  pub front : List ℕ
  pub back : List ℕ
  pub encoded : IsEncodingOfHead first front
  pub inside : Inside first x back
  pub whole : t ≡ front ++ back

-- a head that is the whole data item
whole_head : (x : Item) (t : List ℕ) (h : Head) → IsEncodingOfHead h t → Inside h x [] → Opened x t
whole_head x t h s i =
    record { first = h; front = t; back = []; encoded = s; inside = i; whole = sym (append-nil t) }

simple_opened : (x : Item) (n : ℕ) (t : List ℕ) → IsEncodingOfHead (head.Simple n) t → x ≡ simple_item n
    → Opened x t
simple_opened x n t s e = whole_head x t (head.Simple n) s (e, refl)

pub opened : (x : Item) (t : List ℕ) → Within max_depth x t → Opened x t
opened (number (pos n)) t w = whole_head _ t (head.Unsigned n) w.1 (refl, refl)
opened (number (negsuc n)) t w = whole_head _ t (head.Negative n) w.1 (refl, refl)
opened (byte_string s) t w =
    let h = string_headed false s t w.1 in
    record {
      first = head.Bytes h.len;
      front = h.parts.front;
      back = h.parts.back;
      encoded = h.parts.first;
      inside = (s, (refl, h.parts.second));
      whole = h.parts.whole;
    }
opened (text_string s) t w =
    let h = string_headed true s t w.1 in
    record {
      first = head.Text h.len;
      front = h.parts.front;
      back = h.parts.back;
      encoded = h.parts.first;
      inside = (s, (refl, h.parts.second));
      whole = h.parts.whole;
    }
opened (array xs) t w =
    let h = listed_headed 4 (items_len xs) (Within max_depth) (elements xs) (IsEncodingOfItems xs) t
    (length-elements xs) (λ s. each_element max_depth xs s (omega (arith, w.0))) w.1 in
    record {
      first = head.Array h.len;
      front = h.parts.front;
      back = h.parts.back;
      encoded = h.parts.first;
      inside = (elements xs, (ap array (sym (items_of-elements xs)), h.parts.second));
      whole = h.parts.whole;
    }
opened (map ps) t w =
    let h = listed_headed 5 (pairs_len ps) (PairWithin max_depth) (members ps) (IsEncodingOfPairs ps) t
    (length-members ps) (λ s. each_member max_depth ps s (omega (arith, w.0))) w.1 in
    record {
      first = head.Map h.len;
      front = h.parts.front;
      back = h.parts.back;
      encoded = h.parts.first;
      inside = (members ps, (ap map (sym (pairs_of-members ps)), h.parts.second));
      whole = h.parts.whole;
    }
opened (tagged n x) t w =
    let p = w.1 in
    record {
      first = head.Tag n;
      front = p.front;
      back = p.back;
      encoded = p.first;
      inside = (x, (refl, (omega (arith, w.0), p.second)));
      whole = p.whole;
    }
opened (boolean false) t w = simple_opened _ 20 t (inl (omega arith, w.1)) refl
opened (boolean true) t w = simple_opened _ 21 t (inl (omega arith, w.1)) refl
opened null t (deep, inl s) = simple_opened _ 22 t (inl (omega arith, s)) refl
opened null t (deep, inr s) = simple_opened _ 23 t (inl (omega arith, s)) refl
opened (simple n) t (deep, inl s) = simple_opened _ n t (inl (omega (arith, s.0), s.1)) (sym (low_simple n s.0))
opened (simple n) t (deep, inr s) = simple_opened _ n t (inr s) (sym (high_simple n s.0.0))
opened (float f) t w = whole_head _ t (head.Float f) w.1 (refl, refl)

-- ---- the calls of a cursor

pub opens : (a b : CursorState) (found : Option Head) (x : Item) (to : ℕ) → FindsHead a b found
    → IsEncodedAt x a.bytes a.place to → Opens x to b found
opens a b None x to n l =
    let o = opened x l.text l.encoded in
    n.none o.first o.front (o.back ++ drop to a.bytes) o.encoded (l.parts
    ∙ ap (λ (t : List ℕ). t ++ drop to a.bytes) o.whole ∙ append_assoc o.front o.back (drop to a.bytes))
opens a b (Some h) x to p l =
    let o = opened x l.text l.encoded in
    let rest = drop to a.bytes in
    let parts : ahead a ≡ o.front ++ (o.back ++ rest) =
    l.parts ∙ ap (λ (t : List ℕ). t ++ rest) o.whole ∙ append_assoc o.front o.back rest in
    let one : head_at (ahead a) ≡ Some (o.first, o.back ++ rest) =
    ap head_at parts ∙ head_again o.first o.front (o.back ++ rest) o.encoded in
    let two : head_at (ahead a) ≡ Some (h, ahead b) =
    ap head_at p.parts ∙ head_again h p.text (ahead b) p.encoded in
    let same = some_is (o.first, o.back ++ rest) (h, ahead b) (sym one ∙ two) in
    let left : ahead b ≡ o.back ++ rest = sym (ap (λ (q : Head × List ℕ). q.1) same) in
    let size = lies_size (Within max_depth x) a.bytes a.place to l in
    record {
      text = o.back;
      encoded = subst (λ (g : Head). Inside g x o.back) (ap (λ (q : Head × List ℕ). q.0) same) o.inside;
      parts = left ∙ ap (λ (bytes : List ℕ). o.back ++ drop to bytes) (sym p.bytes);
      forward = omega (
        arith,
        size,
        p.place,
        ap length o.whole,
        length-append o.front o.back,
        ap length p.parts,
        ap length parts,
        length-append p.text (ahead b),
        length-append o.front (o.back ++ rest),
        ap length left,
      );
      within = omega (arith, l.within, ap length p.bytes);
    }

pub passes : (a b : CursorState) (found : Bool) (x : Item) (to : ℕ) → SkipsLeadingItem a b found
    → IsEncodedAt x a.bytes a.place to → Passes to a b found
passes a b true x to p l =
    let same = only_one x p.item a.bytes a.place to p.len l p.front in
    record {
      is_found = refl;
      place = omega (arith, p.place, same.1, l.forward);
      counted = p.counted ∙ ap (λ (n : ℕ). raised a.heads (heads_of (take n (ahead a)))) same.1;
      least = p.least;
      heads = omega (arith, p.heads, same.1, l.forward);
      nodes = p.nodes;
      bytes = p.bytes;
    }
passes a b false x to n l = absurd (n.none x (to - a.place) (stands_front x a.bytes a.place to l))

pub values : (a b : CursorState) (result : Result Value CborError) (x : Item) (to : ℕ) → ReadsValue a b result
    → IsEncodedAt x a.bytes a.place to → Values x to a b result
values a b (Ok v) x to p l =
    let same = only_one x (item_of v) a.bytes a.place to p.len l p.front in
    record {
      value = same.0;
      place = omega (arith, p.place, same.1, l.forward);
      all = subst (λ (n : ℕ). raised a.heads (heads_of (take n (ahead a))) ≤ b.heads) same.1 p.all;
      least = p.least;
      heads = omega (arith, p.heads, same.1, l.forward);
      nodes = p.nodes ∙ ap (λ (y : Item). raised a.nodes (nodes y)) same.0;
      bytes = p.bytes;
    }
values a b (Err error.DecodeFailed) x to n l = n.none x (to - a.place) (stands_front x a.bytes a.place to l)
values a b (Err error.OutOfMemory) x to p l =
    let same = only_one x p.item a.bytes a.place to p.len l p.front in
    record {
      grows = subst Grows same.0 p.grows;
      place = p.place;
      all = subst (λ (n : ℕ). raised a.heads (heads_of (take n (ahead a))) ≤ b.heads) same.1 p.all;
      least = p.least;
      heads = omega (arith, p.heads, same.1, l.forward);
      least_nodes = p.least_nodes;
      nodes = omega (arith, p.nodes, ap nodes same.0);
      bytes = p.bytes;
    }
values a b (Err error.OutOfRangeIntegerValue) x to n l = n
