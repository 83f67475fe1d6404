-- The members of a map, one by one.
use Rattle.std.proofs.Common.{◌≡◌, ℕ, ◌-◌, ◌<◌, ◌≤◌, Bool, true, false, List, [], ◌∷◌, ◌++◌, length, take, drop, Option, Some, None, refl, sym, ap, subst, ◌∙◌, zero-add, arith, Bor}
use Rattle.std.specs.Prelude.{nat_lt, ◌==◌, if◌then◌else◌}
use Rattle.std.proofs.lemmas.List.{length-append, length-drop, length-take, take_at}
use Rattle.passkey_cbor.specs.Item.{Item, Pairs, map, pairs_of}
use Rattle.passkey_cbor.specs.LeadingItem.{max_depth, IsLeadingItem}
use Rattle.passkey_cbor.specs.Reading.{simple_item, item_within}
use Rattle.passkey_cbor.specs.Inside.{Within, PairWithin, Inside}
use Rattle.passkey_cbor.specs.CursorState.{CursorState}
use Rattle.passkey_cbor.specs.Skipped.{PassesLeadingItem, FindsNoLeadingItem}
use Rattle.passkey_cbor.specs.EncodedAt.{Lies, IsEncodedAt, PairsAreEncodedAt, Passes, Next, WalksOn}
use Rattle.passkey_cbor.specs.Members.{MembersLeft, AreLeft, SomeLeft, GivesFirst, Ended, NextMember, GivesNext, AllLeft, HasNoMap, LendsItem}
use Rattle.passkey_cbor.specs.declared.head.Head.{Head}
use Rattle.passkey_cbor.specs.declared.head.Head.TheVariants as head
use Rattle.passkey_cbor.proofs.items.Lists.{encoded_long}
use Rattle.passkey_cbor.proofs.items.Items.{follows_item}
use Rattle.passkey_cbor.proofs.items.EncodedFrom.{lies_size, front_stands}
use Rattle.passkey_cbor.proofs.items.More.{split}

-- ---- the bytes of one data item

pub lends_item : (bytes : List ℕ) (a b : CursorState) (found : Bool) (from end : ℕ) → bytes ≡ a.bytes → from ≡ a.place
    → end ≡ b.place → ((x : Item) (to : ℕ) → IsEncodedAt x a.bytes a.place to → Passes to a b found)
    → (x : Item) (to : ℕ) → IsEncodedAt x a.bytes a.place to
    → LendsItem x to a b (take (end - from) (drop from bytes))
lends_item bytes a b found from end same from_is end_is passes x to l =
    let p = passes x to l in
    let size : length l.text ≡ to - a.place = omega (arith, lies_size (Within max_depth x) a.bytes a.place to l) in
    let to_is : end ≡ to = end_is ∙ p.place in
    let slice : take (end - from) (drop from bytes) ≡ l.text =
    rw (to_is, from_is, same)
    (ap (take (to - a.place)) l.parts ∙ take_at l.text (drop to a.bytes) (to - a.place) size) in
    record {
      encoded = subst (Within max_depth x) (sym slice) l.encoded;
      here = l.parts ∙ ap (λ (t : List ℕ). t ++ drop to a.bytes) (sym slice);
      place = p.place;
    }

-- the cursor is still within the bytes
pub passed_within : (a b : CursorState) → PassesLeadingItem a b → b.place ≤ length a.bytes
passed_within a b p =
    let some = encoded_long (Within max_depth) (item_within max_depth) (follows_item max_depth) p.item
    (take p.len (drop a.place a.bytes)) (p.front.shallow, p.front.encoded) in
    omega (
      arith,
      some,
      p.place,
      p.front.within,
      length-take p.len (drop a.place a.bytes),
      length-drop a.place a.bytes,
    )

pub not_passed : (to : ℕ) (a b : CursorState) → Passes to a b false → ⊥
not_passed to a b p = let found : false ≡ true = p.is_found in absurd cc

-- ---- the next member

abbrev pub at : List ℕ → ℕ → Option ℕ → MembersLeft
at bytes place left = record { bytes = bytes; place = place; left = left }

none_is_next : (ms : List (Item × Item)) (to : ℕ) (old new : MembersLeft) → ms ≡ [] → Ended to old new
    → NextMember ms to old None new
none_is_next [] to old new e n = n
none_is_next (m ∷ ms) to old new e n = absurd cc

first_is_next : (ms : List (Item × Item)) (to : ℕ) (old new : MembersLeft) (first : Item × Item)
    (others : List (Item × Item)) (slices : Bor (List ℕ) × Bor (List ℕ)) → ms ≡ first ∷ others
    → GivesFirst first others to old new slices.0.now slices.1.now → NextMember ms to old (Some slices) new
first_is_next ms to old new first others slices e g =
    subst (λ (ms : List (Item × Item)). NextMember ms to old (Some slices) new) (sym e) g

pub ends : (before after : Option ℕ) (a m : CursorState) (bytes : List ℕ) → a.bytes ≡ bytes → SomeLeft (at bytes a.place
    before) → WalksOn before after a m false → GivesNext (at bytes a.place before) None (at bytes m.place (Some 0))
ends before after a m bytes same some w = record {
  some = some;
  next = λ ms to l.
      let e = w.pairs ms to (rw same l) in
      let none : AreLeft [] to (at bytes m.place (Some 0)) = record {
        text = [];
        encoded = (refl, refl);
        parts = ap (λ (p : ℕ). drop p bytes) e.1;
        forward = omega (arith, e.1);
        within = omega (arith, l.within);
      } in
      none_is_next ms to (at bytes a.place before) (at bytes m.place (Some 0)) e.0
      (record { place = e.1; after = none; bytes = refl });
}

-- the first of the members that are left is next after `more`
next_there : (before after : Option ℕ) (a m : CursorState) (bytes : List ℕ) (ms : List (Item × Item)) (to : ℕ)
    → a.bytes ≡ bytes → WalksOn before after a m true → AreLeft ms to (at bytes a.place before)
    → Next (PairWithin max_depth) after ms m.bytes m.place to
next_there before after a m bytes ms to same w l = w.pairs ms to (rw same l)

-- a key is encoded there, so it is passed
pub key_there : (before after : Option ℕ) (a m : CursorState) (bytes : List ℕ) → a.bytes ≡ bytes
    → SomeLeft (at bytes a.place before) → WalksOn before after a m true
    → ((x : Item) (to : ℕ) → IsEncodedAt x m.bytes m.place to → ⊥) → ⊥
key_there before after a m bytes same some w none =
    let n = next_there before after a m bytes some.pairs some.to same w some.are_left in
    let s = split (Within max_depth n.first.0) (Within max_depth n.first.1) m.bytes m.place n.middle n.here in
    none n.first.0 s.middle s.front

-- after it, its value is encoded
pub value_there : (before after : Option ℕ) (a m k : CursorState) (bytes : List ℕ) (key : Bor (List ℕ)) → a.bytes ≡ bytes
    → SomeLeft (at bytes a.place before) → WalksOn before after a m true
    → k.bytes ≡ m.bytes → ((x : Item) (to : ℕ) → IsEncodedAt x m.bytes m.place to → LendsItem x to m k key.now)
    → ((x : Item) (to : ℕ) → IsEncodedAt x k.bytes k.place to → ⊥) → ⊥
value_there before after a m k bytes key same some w same_k lends none =
    let n = next_there before after a m bytes some.pairs some.to same w some.are_left in
    let s = split (Within max_depth n.first.0) (Within max_depth n.first.1) m.bytes m.place n.middle n.here in
    let p = lends n.first.0 s.middle s.front in
    none n.first.1 n.middle (rw (same_k, p.place) s.back)

gives_first : (after : Option ℕ) (m k v : CursorState) (key value : List ℕ) (ms : List (Item × Item)) (to : ℕ)
    (n : Next (PairWithin max_depth) after ms m.bytes m.place to) (before : Option ℕ)
    → k.bytes ≡ m.bytes → ((x : Item) (to : ℕ) → IsEncodedAt x m.bytes m.place to → LendsItem x to m k key)
    → ((x : Item) (to : ℕ) → IsEncodedAt x k.bytes k.place to → LendsItem x to k v value)
    → GivesFirst n.first n.others to (at m.bytes m.place before) (at m.bytes v.place after) key value
gives_first after m k v key value ms to n before same_k lends_key lends_value =
    let s = split (Within max_depth n.first.0) (Within max_depth n.first.1) m.bytes m.place n.middle n.here in
    let p = lends_key n.first.0 s.middle s.front in
    let q = lends_value n.first.1 n.middle (rw (same_k, p.place) s.back) in
    let following : drop s.middle m.bytes ≡ value ++ drop v.place m.bytes =
    subst (λ (place : ℕ). drop place m.bytes ≡ value ++ drop v.place m.bytes) p.place
    (rw q.place (subst (λ (b : List ℕ). drop k.place b ≡ value ++ drop n.middle b) same_k q.here)) in
    record {
      key_encoded = p.encoded;
      value_encoded = q.encoded;
      here = p.here ∙ ap (λ (t : List ℕ). key ++ t) following;
      after = rw q.place n.after;
      bytes = refl;
    }

pub gives : (before after : Option ℕ) (a m k v : CursorState) (bytes : List ℕ) (key value : Bor (List ℕ)) → a.bytes ≡ bytes
    → SomeLeft (at bytes a.place before) → WalksOn before after a m true
    → k.bytes ≡ m.bytes → ((x : Item) (to : ℕ) → IsEncodedAt x m.bytes m.place to → LendsItem x to m k key.now)
    → ((x : Item) (to : ℕ) → IsEncodedAt x k.bytes k.place to → LendsItem x to k v value.now)
    → GivesNext (at bytes a.place before) (Some (key, value)) (at bytes v.place after)
gives before after a m k v bytes key value same some w same_k lends_key lends_value =
    let here : m.bytes ≡ bytes = w.looks.bytes ∙ same in
    let stays : m.place ≡ a.place = w.looks.stays refl in
    record {
      some = some;
      next = λ ms to l.
          let n = next_there before after a m bytes ms to same w l in
          let g = gives_first after m k v key.now value.now ms to n before same_k lends_key lends_value in
          let h :
          GivesFirst n.first n.others to (at bytes a.place before) (at bytes v.place after) key.now value.now =
          subst (λ (b : List ℕ). GivesFirst n.first n.others to (at b a.place before) (at b v.place after) key.now
          value.now) here (subst (λ (p : ℕ). GivesFirst n.first n.others to (at m.bytes p before)
          (at m.bytes v.place after) key.now value.now) stays g) in
          first_is_next ms to (at bytes a.place before) (at bytes v.place after) n.first n.others (key, value)
          n.whole h;
    }

-- what is left after a member
others_left : (old new : MembersLeft) (ms : List (Item × Item)) (to : ℕ) (slices : Bor (List ℕ) × Bor (List ℕ))
    → NextMember ms to old (Some slices) new → SomeLeft new
others_left old new [] to slices n = absurd n
others_left old new (m ∷ ms) to slices n = record { pairs = ms; to = to; are_left = n.after }

pub some_left_after : (old new : MembersLeft) (slices : Bor (List ℕ) × Bor (List ℕ))
    → GivesNext old (Some slices) new → SomeLeft new
some_left_after old new slices g =
    others_left old new g.some.pairs g.some.to slices (g.next g.some.pairs g.some.to g.some.are_left)

nearer_by : (old new : MembersLeft) (ms : List (Item × Item)) (to : ℕ) (slices : Bor (List ℕ) × Bor (List ℕ))
    → NextMember ms to old (Some slices) new → length new.bytes - new.place < length old.bytes - old.place
nearer_by old new [] to slices n = absurd n
nearer_by old new (m ∷ ms) to slices n =
    let rest = drop new.place old.bytes in
    let some : 0 < length slices.0.now = encoded_long (Within max_depth) (item_within max_depth)
    (follows_item max_depth) m.0 slices.0.now n.key_encoded in
    omega (
      arith,
      some,
      ap length n.here,
      ap length n.bytes,
      length-append slices.0.now (slices.1.now ++ rest),
      length-append slices.1.now rest,
      length-drop old.place old.bytes,
      length-drop new.place old.bytes,
    )

pub nearer : (old new : MembersLeft) (slices : Bor (List ℕ) × Bor (List ℕ)) → GivesNext old (Some slices) new
    → length new.bytes - new.place < length old.bytes - old.place
nearer old new slices g =
    nearer_by old new g.some.pairs g.some.to slices (g.next g.some.pairs g.some.to g.some.are_left)

-- ---- a map as the leading data item

abbrev start : List ℕ → CursorState
start bytes = record { bytes = bytes; place = 0; heads = 0; nodes = 0 }

-- the cursor skipped the data item and went back to the start
stands_again : (bytes : List ℕ) (a b p : CursorState) (x : Item) (len : ℕ) → a ≡ start bytes → b.bytes ≡ a.bytes
    → p ≡ record b { place = 0 } → IsLeadingItem bytes x len → IsEncodedAt x p.bytes p.place len
stands_again bytes a b p x len new same back f =
    let bytes_are : p.bytes ≡ bytes = ap (λ (w : CursorState). w.bytes) back ∙ same ∙ ap (λ (w : CursorState). w.bytes) new in
    rw (bytes_are, ap (λ (w : CursorState). w.place) back) (subst (IsEncodedAt x bytes 0) (zero-add len) (front_stands x bytes 0 len f))

pub no_item : (bytes : List ℕ) (a b : CursorState) → a ≡ start bytes → FindsNoLeadingItem a b → HasNoMap bytes
no_item bytes a b new n ms len f = n.none (map (pairs_of ms)) len (rw new f)

pub no_head : (bytes : List ℕ) (a b p : CursorState) → a ≡ start bytes → b.bytes ≡ a.bytes → p ≡ record b { place = 0 }
    → ((x : Item) (to : ℕ) → IsEncodedAt x p.bytes p.place to → ⊥) → HasNoMap bytes
no_head bytes a b p new same back none ms len f =
    none (map (pairs_of ms)) len (stands_again bytes a b p (map (pairs_of ms)) len new same back f)

-- the pairs of a data item that is a map
abbrev pairs_in : Item → Option Pairs
pairs_in (map ps) = Some ps
pairs_in _ = None

differs : (ps : Pairs) (x : Item) → map ps ≡ x → pairs_in x ≡ None → ⊥
differs ps x e none = let q : Some ps ≡ None = ap pairs_in e ∙ none in absurd cc

either_differs : (b : Bool) (x y : Item) → pairs_in x ≡ None → pairs_in y ≡ None
    → pairs_in (if b then x else y) ≡ None
either_differs true x y p q = p
either_differs false x y p q = q

simple_differs : (n : ℕ) → pairs_in (simple_item n) ≡ None
simple_differs n =
    either_differs (nat_lt n 20) _ _ refl (either_differs (n == 20) _ _ refl
    (either_differs (n == 21) _ _ refl (either_differs (nat_lt n 24) _ _ refl refl)))

-- only a map's head begins a map
not_inside : (h : Head) (ps : Pairs) (t : List ℕ) → ((left : Option ℕ) → h ≡ head.Map left → ⊥)
    → Inside h (map ps) t → ⊥
not_inside (head.Unsigned n) ps t other i = differs ps _ i.0 refl
not_inside (head.Negative n) ps t other i = differs ps _ i.0 refl
not_inside (head.Map n) ps t other i = other n refl
not_inside (head.Simple n) ps t other i = differs ps _ i.0 (simple_differs n)
not_inside (head.Float f) ps t other i = differs ps _ i.0 refl
not_inside head.Break ps t other i = i
not_inside _ ps t other i = differs ps _ i.1.0 refl

pub no_map : (bytes : List ℕ) (a b p n : CursorState) (h : Head) → a ≡ start bytes → b.bytes ≡ a.bytes
    → p ≡ record b { place = 0 } → ((left : Option ℕ) → h ≡ head.Map left → ⊥)
    → ((x : Item) (to : ℕ) → IsEncodedAt x p.bytes p.place to → Lies (Inside h x) n.bytes n.place to)
    → HasNoMap bytes
no_map bytes a b p n h new same back other opens ms len f =
    let o = opens (map (pairs_of ms)) len (stands_again bytes a b p (map (pairs_of ms)) len new same back f) in
    not_inside h (pairs_of ms) o.text other o.encoded

pub all_left : (bytes : List ℕ) (a b p n : CursorState) (h : Head) (left : Option ℕ) → a ≡ start bytes
    → PassesLeadingItem a b → p ≡ record b { place = 0 } → n.bytes ≡ p.bytes → h ≡ head.Map left
    → ((x : Item) (to : ℕ) → IsEncodedAt x p.bytes p.place to → Lies (Inside h x) n.bytes n.place to)
    → (n.bytes ≡ bytes) × AllLeft bytes (at bytes n.place left)
all_left bytes a b p n h left new passed back same_n is opens =
    let front : IsLeadingItem bytes passed.item passed.len =
    subst (λ (w : CursorState). IsLeadingItem (drop w.place w.bytes) passed.item passed.len) new passed.front in
    let o = subst (λ (h : Head). Lies (Inside h passed.item) n.bytes n.place passed.len) is (opens passed.item
    passed.len (stands_again bytes a b p passed.item passed.len new passed.bytes back front)) in
    let bytes_are : n.bytes ≡ bytes =
    same_n ∙ ap (λ (w : CursorState). w.bytes) back ∙ passed.bytes ∙ ap (λ (w : CursorState). w.bytes) new in
    let i = o.encoded in
    let there : PairsAreEncodedAt left i.0 n.bytes n.place passed.len =
    record { text = o.text; encoded = i.1.1; parts = o.parts; forward = o.forward; within = o.within } in (
      bytes_are,
      record {
        pairs = i.0;
        len = passed.len;
        front = subst (λ (x : Item). IsLeadingItem bytes x passed.len) i.1.0 front;
        are_left = subst (λ (b : List ℕ). PairsAreEncodedAt left i.0 b n.place passed.len) bytes_are there;
        same = refl;
      },
    )

pub some_of_all : (bytes : List ℕ) (now : MembersLeft) → AllLeft bytes now → SomeLeft now
some_of_all bytes now l = record { pairs = l.pairs; to = l.len; are_left = l.are_left }
