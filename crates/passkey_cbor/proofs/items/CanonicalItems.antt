-- The bytes after a canonical data item, and after a list of them.
use Rattle.std.proofs.Common.{◌≡◌, ◌≢◌, ◌⊎◌, ◌↔◌, ℕ, ◌-◌, ◌^◌, ◌<◌, ◌≤◌, pos, negsuc, IsTrue, Bool, true, false, List, [], ◌∷◌, ◌++◌, length, take, Option, Some, None, option_map, refl, sym, ap, subst, ◌∙◌, arith, inl, inr, append_assoc}
use Rattle.std.specs.Prelude.{IfSome, nat_lt}
use Rattle.std.proofs.lemmas.Bool.{cases_eq, cases_lt, lt-ltb, le-ltb}
use Rattle.std.proofs.lemmas.Bool.Decides.{nat_tests}
use Rattle.std.proofs.lemmas.List.{length-append, take_at}
use Rattle.passkey_cbor.specs.Bytes.{IsBytes}
use Rattle.passkey_cbor.specs.Canonical.{ComesAfter, AscendFrom, IsOrdered, AreOrdered, ArePairsOrdered, IsCanonical}
use Rattle.passkey_cbor.specs.CanonicalReading.{Leaves, head_written, head_of, content_of, BeginsShortest, DecodesShortest, BeginsItem, BeginsItems, BeginsPairs, BeginsString, BeginsContent}
use Rattle.passkey_cbor.specs.Depth.{depth, items_depth, pairs_depth}
use Rattle.passkey_cbor.specs.FloatParts.{FloatParts, IsFloat}
use Rattle.passkey_cbor.specs.LeadingItem.{max_depth}
use Rattle.passkey_cbor.specs.HeadEncoding.{IsEncodingOfHead, SimpleHeads}
use Rattle.passkey_cbor.specs.Heads.{FloatHeads}
use Rattle.passkey_cbor.specs.Inside.{Within}
use Rattle.passkey_cbor.specs.Item.{Item, number, byte_string, text_string, array, map, tagged, boolean, null, simple, float, Items, no_items, item, Pairs, no_pairs, pair}
use Rattle.passkey_cbor.specs.Ranges.{IsSimple}
use Rattle.passkey_cbor.specs.Reading.{piece_at, item_within, start}
use Rattle.passkey_cbor.specs.Encoding.{items_len, pairs_len}
use Rattle.passkey_cbor.specs.Writable.{IsWritable, AreWritable, ArePairsWritable}
use Rattle.passkey_cbor.specs.Written.{shortest_head, written, items_written, pairs_written}
use Rattle.passkey_cbor.specs.declared.head.Head.{Head}
use Rattle.passkey_cbor.specs.declared.head.Head.TheVariants as head
use Rattle.passkey_cbor.proofs.items.Binds.{some_is, none_is_some}
use Rattle.passkey_cbor.proofs.items.Items.{follows_item}
use Rattle.passkey_cbor.proofs.items.Lists.{Follows, encoded_long}
use Rattle.passkey_cbor.proofs.heads.Shortest.{heads_fit, begins_once}
use Rattle.passkey_cbor.proofs.strings.Strings.{piece_again, piece_takes}
use Rattle.passkey_cbor.proofs.items.WrittenIsEncoding.{shortest_head-encoded, float_head-encoded, number_fits, simple_cases, written_is_encoding}

-- ---- a data item's head and content

end_nil : (s : List ℕ) → s ≡ s ++ []
end_nil [] = refl
end_nil (b ∷ s) = ap (λ (r : List ℕ). b ∷ r) (end_nil s)

simple_head_is : (n : ℕ) → IsSimple n → (IsEncodingOfHead (head.Simple n) (head_written (head.Simple n)))
    × (written (simple n) ≡ head_written (head.Simple n))
simple_head_is n h =
    elim (simple_cases n h) [
      | inl a ↦ (
        rw (lt-ltb n 24 (omega (arith, a))) (inl (omega (arith, a), refl)),
        rw (lt-ltb n 20 a, lt-ltb n 24 (omega (arith, a))) refl,
      )
      | inr a ↦ (
        rw (le-ltb n 24 (omega (arith, a.0))) (inr (a, refl)),
        rw (le-ltb n 20 (omega (arith, a.0)), le-ltb n 24 (omega (arith, a.0))) refl,
      )
    ]

head_encoded : (x : Item) → IsWritable x → IsEncodingOfHead (head_of x) (head_written (head_of x))
head_encoded (number (pos n)) h = shortest_head-encoded 0 n (number_fits n h)
head_encoded (number (negsuc n)) h = shortest_head-encoded 1 n (number_fits n h)
head_encoded (byte_string s) h = shortest_head-encoded 2 (length s) h
head_encoded (text_string s) h = shortest_head-encoded 3 (length s) h.0
head_encoded (array xs) h = shortest_head-encoded 4 (items_len xs) h.0
head_encoded (map ps) h = shortest_head-encoded 5 (pairs_len ps) h.0
head_encoded (tagged t x) h = shortest_head-encoded 6 t h.0
head_encoded (boolean false) h = inl (omega arith, refl)
head_encoded (boolean true) h = inl (omega arith, refl)
head_encoded null h = inl (omega arith, refl)
head_encoded (simple n) h = (simple_head_is n h).0
head_encoded (float f) h = float_head-encoded f h

written_parts : (x : Item) → IsWritable x → written x ≡ head_written (head_of x) ++ content_of x
written_parts (number (pos n)) h = end_nil (shortest_head 0 n)
written_parts (number (negsuc n)) h = end_nil (shortest_head 1 n)
written_parts (byte_string s) h = refl
written_parts (text_string s) h = refl
written_parts (array xs) h = refl
written_parts (map ps) h = refl
written_parts (tagged t x) h = refl
written_parts (boolean false) h = refl
written_parts (boolean true) h = refl
written_parts null h = refl
written_parts (simple n) h = (simple_head_is n h).1 ∙ end_nil (head_written (head.Simple n))
written_parts (float f) h = end_nil (written (float f))

-- ---- what follows a head is a data item's content

-- The bytes begin with the content of a data item that has this head.
pub record HoldsContent (levels : ℕ) (h : Head) (bytes rest : List ℕ) : Type 0 where
  pub item : Item
  pub headed : head_of item ≡ h
  pub writable : IsWritable item
  pub ordered : IsOrdered item
  pub shallow : depth item ≤ levels
  pub parts : bytes ≡ content_of item ++ rest

simple_differs : (n : ℕ) → IsSimple n → n ≢ 23
simple_differs n h q =
    elim (simple_cases n h) [ inl a ↦ absurd (omega (arith, a, q)) | inr a ↦ absurd (omega (arith, a.0, q)) ]

to_content : (levels : ℕ) (x : Item) (bytes rest : List ℕ) → IsWritable x → IsOrdered x → depth x ≤ levels
    → bytes ≡ content_of x ++ rest → BeginsContent levels (head_of x) bytes rest
to_content levels (number (pos n)) bytes rest w o d p = sym p
to_content levels (number (negsuc n)) bytes rest w o d p = sym p
to_content levels (byte_string s) bytes rest w o d p = record { content = s; long = refl; allowed_text = tt; parts = p }
to_content levels (text_string s) bytes rest w o d p = record { content = s; long = refl; allowed_text = w.1; parts = p }
to_content levels (array xs) bytes rest w o d p = (
  omega (arith, d),
  record { items = xs; counted = refl; writable = w.1; ordered = o; shallow = omega (arith, d); parts = p },
)
to_content levels (map ps) bytes rest w o d p = (
  omega (arith, d),
  record {
    pairs = ps;
    counted = refl;
    writable = w.1;
    ascend = o.0;
    ordered = o.1;
    shallow = omega (arith, d);
    parts = p;
  },
)
to_content levels (tagged t x) bytes rest w o d p = o
to_content levels (boolean false) bytes rest w o d p = ((λ q. omega (arith, q)), sym p)
to_content levels (boolean true) bytes rest w o d p = ((λ q. omega (arith, q)), sym p)
to_content levels null bytes rest w o d p = ((λ q. omega (arith, q)), sym p)
to_content levels (simple n) bytes rest w o d p = (simple_differs n w, sym p)
to_content levels (float f) bytes rest w o d p = sym p

is_number : (n : ℕ) → n < 2 ^ 64 → IsTrue (nat_lt n (2 ^ 64))
is_number n h = grind (arith, nat_tests)

is_float_head : (f : FloatParts) (t : List ℕ) → FloatHeads f t → IsFloat f.width f.bits
is_float_head f t (inl s) = grind (arith, nat_tests, s.0.0, s.0.1)
is_float_head f t (inr (inl s)) = grind (arith, nat_tests, s.0.0, s.0.1)
is_float_head f t (inr (inr s)) = grind (arith, nat_tests, s.0.0, s.0.1)

is_simple_low : (n : ℕ) → n < 20 → IsSimple n
is_simple_low n h = grind (arith, nat_tests)

is_simple_high : (n : ℕ) → 32 ≤ n → n < 256 → IsSimple n
is_simple_high n h k = grind (arith, nat_tests)

flat_content : (levels : ℕ) (h : Head) (x : Item) (bytes rest : List ℕ) → head_of x ≡ h → IsWritable x → IsOrdered x
    → depth x ≡ 0 → content_of x ≡ [] → rest ≡ bytes → HoldsContent levels h bytes rest
flat_content levels h x bytes rest headed w o flat none e = record {
  item = x;
  headed = headed;
  writable = w;
  ordered = o;
  shallow = omega (arith, flat);
  parts = sym e ∙ ap (λ (s : List ℕ). s ++ rest) (sym none);
}

simple_content : (levels n : ℕ) (t bytes rest : List ℕ) → SimpleHeads n t → n ≢ 23 → rest ≡ bytes
    → HoldsContent levels (head.Simple n) bytes rest
simple_content levels n t bytes rest (inr s) other e =
    flat_content levels (head.Simple n) (simple n) bytes rest refl (is_simple_high n s.0.0 s.0.1) tt refl refl e
simple_content levels n t bytes rest (inl s) other e = by_20 (cases_lt n 20) where
  at : (k : ℕ) → n ≡ k → HoldsContent levels (head.Simple k) bytes rest
      → HoldsContent levels (head.Simple n) bytes rest
  at k q c = subst (λ (m : ℕ). HoldsContent levels (head.Simple m) bytes rest) (sym q) c

  by_21 : (n ≢ 20) → 20 ≤ n → (n ≡ 21) ⊎ (n ≡ 21 → ⊥) → HoldsContent levels (head.Simple n) bytes rest
  by_21 a le (inl q) =
      at 21 q (flat_content levels (head.Simple 21) (boolean true) bytes rest refl tt tt refl refl e)
  by_21 a le (inr b) =
      at 22 (omega (arith, s.0, le, a, b, other))
      (flat_content levels (head.Simple 22) null bytes rest refl tt tt refl refl e)

  by_20 : (n < 20) ⊎ (20 ≤ n) → HoldsContent levels (head.Simple n) bytes rest
  by_20 (inl lt) =
      flat_content levels (head.Simple n) (simple n) bytes rest refl (is_simple_low n lt) tt refl refl e
  by_20 (inr le) = elim (cases_eq n 20) [
    | inl q ↦ at 20 q (flat_content levels (head.Simple 20) (boolean false) bytes rest refl tt tt refl refl e)
    | inr a ↦ by_21 a le (cases_eq n 21)
  ]

from_content : (levels : ℕ) (h : Head) (bytes rest : List ℕ) → IsEncodingOfHead h (head_written h)
    → BeginsContent levels h bytes rest → HoldsContent levels h bytes rest
from_content levels (head.Unsigned n) bytes rest s e =
    flat_content levels (head.Unsigned n) (number (pos n)) bytes rest refl
    (is_number n (heads_fit 0 n (shortest_head 0 n) s)) tt refl refl e
from_content levels (head.Negative n) bytes rest s e =
    flat_content levels (head.Negative n) (number (negsuc n)) bytes rest refl
    (is_number n (heads_fit 1 n (shortest_head 1 n) s)) tt refl refl e
from_content levels (head.Bytes None) bytes rest s e = absurd e
from_content levels (head.Bytes (Some n)) bytes rest s e = record {
  item = byte_string e.content;
  headed = ap (λ (k : ℕ). head.Bytes (Some k)) e.long;
  writable = (let fits : n < 2 ^ 64 = heads_fit 2 n (shortest_head 2 n) s in omega (arith, fits, e.long));
  ordered = tt;
  shallow = omega arith;
  parts = e.parts;
}
from_content levels (head.Text None) bytes rest s e = absurd e
from_content levels (head.Text (Some n)) bytes rest s e = record {
  item = text_string e.content;
  headed = ap (λ (k : ℕ). head.Text (Some k)) e.long;
  writable =
      (let fits : n < 2 ^ 64 = heads_fit 3 n (shortest_head 3 n) s in (omega (arith, fits, e.long), e.allowed_text));
  ordered = tt;
  shallow = omega arith;
  parts = e.parts;
}
from_content levels (head.Array None) bytes rest s e = absurd e
from_content levels (head.Array (Some n)) bytes rest s e = record {
  item = array e.1.items;
  headed = ap (λ (k : ℕ). head.Array (Some k)) e.1.counted;
  writable = (let fits : n < 2 ^ 64 =
      heads_fit 4 n (shortest_head 4 n) s in (omega (arith, fits, e.1.counted), e.1.writable));
  ordered = e.1.ordered;
  shallow = omega (arith, e.0, e.1.shallow);
  parts = e.1.parts;
}
from_content levels (head.Map None) bytes rest s e = absurd e
from_content levels (head.Map (Some n)) bytes rest s e = record {
  item = map e.1.pairs;
  headed = ap (λ (k : ℕ). head.Map (Some k)) e.1.counted;
  writable = (let fits : n < 2 ^ 64 =
      heads_fit 5 n (shortest_head 5 n) s in (omega (arith, fits, e.1.counted), e.1.writable));
  ordered = (e.1.ascend, e.1.ordered);
  shallow = omega (arith, e.0, e.1.shallow);
  parts = e.1.parts;
}
from_content levels (head.Tag n) bytes rest s e = absurd e
from_content levels (head.Simple n) bytes rest s e =
    simple_content levels n (head_written (head.Simple n)) bytes rest s e.0 e.1
from_content levels (head.Float f) bytes rest s e =
    flat_content levels (head.Float f) (float f) bytes rest refl (is_float_head f (head_written (head.Float f)) s)
    tt refl refl e
from_content levels head.Break bytes rest s e = absurd e

-- ---- strings

pub string_left : (is_text : Bool) (len : ℕ) (bytes : List ℕ) → IsBytes bytes → (o : Option (List ℕ × List ℕ))
    → o ≡ piece_at is_text len bytes → Leaves (BeginsString is_text len bytes) (option_map (λ r. r.1) o)
string_left is_text len bytes fits (Some r) e =
    let t = piece_takes is_text len bytes r.0 r.1 fits (sym e) in
    record {
      content = r.0;
      long = sym t.encoded.0.0;
      allowed_text = t.encoded.0.1;
      parts = t.parts ∙ ap (λ (s : List ℕ). s ++ r.1) t.encoded.1;
    }
string_left is_text len bytes fits None e = λ rest b.
    none_is_some (b.content, rest) (e ∙ ap (piece_at is_text len) b.parts ∙ ap (λ (n : ℕ). piece_at is_text n
    (b.content ++ rest)) (sym b.long) ∙ piece_again is_text b.content rest b.allowed_text)

-- ---- one data item

-- what follows the head of a data item that begins the bytes
opens : (levels : ℕ) (bytes rest : List ℕ) → (b : BeginsItem levels bytes rest)
    → BeginsShortest (head_of b.item) bytes (content_of b.item ++ rest)
opens levels bytes rest b = record {
  encoded = head_encoded b.item b.writable;
  parts = b.parts ∙ ap (λ (s : List ℕ). s ++ rest) (written_parts b.item b.writable)
      ∙ append_assoc (head_written (head_of b.item)) (content_of b.item) rest;
}

pub no_head_left : (levels : ℕ) (bytes : List ℕ) → DecodesShortest bytes None
    → Leaves (BeginsItem levels bytes) None
no_head_left levels bytes none =
    λ rest b. none (head_of b.item) (content_of b.item ++ rest) (opens levels bytes rest b)

pub item_left : (levels : ℕ) (h : Head) (bytes following : List ℕ) (r : Option (List ℕ))
    → BeginsShortest h bytes following → Leaves (BeginsContent levels h following) r → Leaves (BeginsItem levels bytes) r
item_left levels h bytes following (Some rest) b c =
    let held = from_content levels h following rest b.encoded c in
    record {
      item = held.item;
      writable = held.writable;
      ordered = held.ordered;
      shallow = held.shallow;
      parts =
          b.parts ∙ ap (λ (s : List ℕ). head_written h ++ s) held.parts
          ∙ sym (append_assoc (head_written h) (content_of held.item) rest)
          ∙ ap (λ (k : Head). (head_written k ++ content_of held.item) ++ rest) (sym held.headed)
          ∙ ap (λ (s : List ℕ). s ++ rest) (sym (written_parts held.item held.writable));
    }
item_left levels h bytes following None b none = λ rest i.
    let same = some_is (head_of i.item, content_of i.item ++ rest) (h, following) (sym (begins_once bytes
    (head_of i.item) (content_of i.item ++ rest) (opens levels bytes rest i)) ∙ begins_once bytes h following b) in
    let heads : head_of i.item ≡ h = ap (λ (p : Head × List ℕ). p.0) same in
    let rests : content_of i.item ++ rest ≡ following = ap (λ (p : Head × List ℕ). p.1) same in
    none rest (subst (λ (k : Head). BeginsContent levels k following rest) heads
    (to_content levels i.item following rest i.writable i.ordered i.shallow (sym rests)))

within : (levels : ℕ) (bytes rest : List ℕ) → (b : BeginsItem levels bytes rest)
    → start (item_within levels) bytes ≡ Some (b.item, rest)
within levels bytes rest b =
    let all : Follows (Within levels) (item_within levels) = follows_item levels in
    ap (start (item_within levels)) b.parts
    ∙ all.again b.item (written b.item) rest (b.shallow, written_is_encoding b.item b.writable)

-- at most one data item begins the bytes
pub only_one : (levels : ℕ) (bytes u v : List ℕ) (a : BeginsItem levels bytes u) (b : BeginsItem levels bytes v)
    → (a.item ≡ b.item) × (u ≡ v)
only_one levels bytes u v a b =
    let same = some_is (a.item, u) (b.item, v) (sym (within levels bytes u a) ∙ within levels bytes v b) in
    (ap (λ (p : Item × List ℕ). p.0) same, ap (λ (p : Item × List ℕ). p.1) same)

pub item_long : (levels : ℕ) (bytes rest : List ℕ) → (b : BeginsItem levels bytes rest)
    → 0 < length (written b.item)
item_long levels bytes rest b =
    encoded_long (Within levels) (item_within levels) (follows_item levels) b.item (written b.item)
    (b.shallow, written_is_encoding b.item b.writable)

-- ---- a list of data items

-- The invariant of a loop over them: the bytes after the items that are left are the bytes after all items.
pub record ItemsGo (levels all : ℕ) (bytes : List ℕ) (left : ℕ) (rest : List ℕ) : Type 0 where
  pub same : (u : List ℕ) → BeginsItems levels left rest u ↔ BeginsItems levels all bytes u

-- the first of several data items
pub record First (levels left : ℕ) (rest u : List ℕ) : Type 0 where
  pub next : List ℕ
  pub one : BeginsItem levels rest next
  pub others : BeginsItems levels (left - 1) next u

first_by : (levels left : ℕ) (rest u : List ℕ) (xs : Items) → 0 < left → items_len xs ≡ left → AreWritable xs
    → AreOrdered xs → items_depth xs ≤ levels → rest ≡ items_written xs ++ u → First levels left rest u
first_by levels left rest u no_items some n w o d p = absurd (omega (arith, some, n))
first_by levels left rest u (item x xs) some n w o d p = record {
  next = items_written xs ++ u;
  one = record {
    item = x;
    writable = w.0;
    ordered = o.0;
    shallow = omega (arith, d);
    parts = p ∙ append_assoc (written x) (items_written xs) u;
  };
  others = record {
    items = xs;
    counted = omega (arith, n);
    writable = w.1;
    ordered = o.1;
    shallow = omega (arith, d);
    parts = refl;
  };
}

first_of : (levels left : ℕ) (rest u : List ℕ) → 0 < left → BeginsItems levels left rest u
    → First levels left rest u
first_of levels left rest u some b =
    first_by levels left rest u b.items some b.counted b.writable b.ordered b.shallow b.parts

one_more : (levels left : ℕ) (rest next u : List ℕ) → 0 < left → BeginsItem levels rest next
    → BeginsItems levels (left - 1) next u → BeginsItems levels left rest u
one_more levels left rest next u some one others = record {
  items = item one.item others.items;
  counted = omega (arith, some, others.counted);
  writable = (one.writable, others.writable);
  ordered = (one.ordered, others.ordered);
  shallow = omega (arith, one.shallow, others.shallow);
  parts = one.parts ∙ ap (λ (s : List ℕ). written one.item ++ s) others.parts
      ∙ sym (append_assoc (written one.item) (items_written others.items) u);
}

pub items_go : (levels all : ℕ) (bytes : List ℕ) (left : ℕ) (rest next : List ℕ) → 0 < left
    → ItemsGo levels all bytes left rest → BeginsItem levels rest next → ItemsGo levels all bytes (left - 1) next
items_go levels all bytes left rest next some go one = record {
  same = λ u. (
    (λ b. (go.same u).0 (one_more levels left rest next u some one b)),
    (λ b.
        let f = first_of levels left rest u some ((go.same u).1 b) in
        subst (λ (s : List ℕ). BeginsItems levels (left - 1) s u) (only_one levels rest f.next next f.one one).1
        f.others),
  );
}

pub items_end : (levels all : ℕ) (bytes : List ℕ) (left : ℕ) (rest : List ℕ) → left ≡ 0
    → ItemsGo levels all bytes left rest → BeginsItems levels all bytes rest
items_end levels all bytes left rest none go =
    (go.same rest).0 (record
    { items = no_items; counted = sym none; writable = tt; ordered = tt; shallow = omega arith; parts = refl })

pub items_stuck : (levels all : ℕ) (bytes : List ℕ) (left : ℕ) (rest : List ℕ) → 0 < left → ItemsGo levels all bytes
    left rest → Leaves (BeginsItem levels rest) None → Leaves (BeginsItems levels all bytes) None
items_stuck levels all bytes left rest some go none = λ u b.
    let f = first_of levels left rest u some ((go.same u).1 b) in
    none f.next f.one

-- ---- a list of pairs

-- The invariant of a loop over them; the previous key isn't empty.
pub record PairsGo (levels all : ℕ) (bytes : List ℕ) (left : ℕ) (before : Option (List ℕ)) (rest : List ℕ) : Type 0
  where
    pub same : (u : List ℕ) → BeginsPairs levels left before rest u ↔ BeginsPairs levels all None bytes u
    pub long : IfSome before (λ k. 0 < length k)

-- the first of several pairs
pub record FirstPair (levels left : ℕ) (before : Option (List ℕ)) (rest u : List ℕ) : Type 0 where
  pub middle : List ℕ
  pub next : List ℕ
  pub key : BeginsItem levels rest middle
  pub value : BeginsItem levels middle next
  pub comes : ComesAfter before (written key.item)
  pub others : BeginsPairs levels (left - 1) (Some (written key.item)) next u

first_pair_by : (levels left : ℕ) (before : Option (List ℕ)) (rest u : List ℕ) (ps : Pairs) → 0 < left
    → pairs_len ps ≡ left → ArePairsWritable ps → AscendFrom before ps → ArePairsOrdered ps
    → pairs_depth ps ≤ levels → rest ≡ pairs_written ps ++ u → FirstPair levels left before rest u
first_pair_by levels left before rest u no_pairs some n w a o d p = absurd (omega (arith, some, n))
first_pair_by levels left before rest u (pair k v ps) some n w a o d p = record {
  middle = written v ++ (pairs_written ps ++ u);
  next = pairs_written ps ++ u;
  key = record {
    item = k;
    writable = w.0.0;
    ordered = o.0.0;
    shallow = omega (arith, d);
    parts = p ∙ append_assoc (written k ++ written v) (pairs_written ps) u
        ∙ append_assoc (written k) (written v) (pairs_written ps ++ u);
  };
  value = record { item = v; writable = w.0.1; ordered = o.0.1; shallow = omega (arith, d); parts = refl };
  comes = a.0;
  others = record {
    pairs = ps;
    counted = omega (arith, n);
    writable = w.1;
    ascend = a.1;
    ordered = o.1;
    shallow = omega (arith, d);
    parts = refl;
  };
}

first_pair : (levels left : ℕ) (before : Option (List ℕ)) (rest u : List ℕ) → 0 < left
    → BeginsPairs levels left before rest u → FirstPair levels left before rest u
first_pair levels left before rest u some b =
    first_pair_by levels left before rest u b.pairs some b.counted b.writable b.ascend b.ordered b.shallow b.parts

one_more_pair : (levels left : ℕ) (before : Option (List ℕ)) (rest middle next u : List ℕ) → 0 < left
    → (key : BeginsItem levels rest middle) → BeginsItem levels middle next → ComesAfter before (written key.item)
    → BeginsPairs levels (left - 1) (Some (written key.item)) next u → BeginsPairs levels left before rest u
one_more_pair levels left before rest middle next u some key value comes others = record {
  pairs = pair key.item value.item others.pairs;
  counted = omega (arith, some, others.counted);
  writable = ((key.writable, value.writable), others.writable);
  ascend = (comes, others.ascend);
  ordered = ((key.ordered, value.ordered), others.ordered);
  shallow = omega (arith, key.shallow, value.shallow, others.shallow);
  parts =
      key.parts ∙ ap (λ (s : List ℕ). written key.item ++ s)
      (value.parts ∙ ap (λ (s : List ℕ). written value.item ++ s) others.parts)
      ∙ sym (append_assoc (written key.item) (written value.item) (pairs_written others.pairs ++ u))
      ∙ sym (append_assoc (written key.item ++ written value.item) (pairs_written others.pairs) u);
}

pub shorter : (levels : ℕ) (rest middle : List ℕ) → BeginsItem levels rest middle → length middle ≤ length rest
shorter levels rest middle b = omega (arith, ap length b.parts, length-append (written b.item) middle)

pub key_is : (levels : ℕ) (rest middle : List ℕ) → (b : BeginsItem levels rest middle)
    → take (length rest - length middle) rest ≡ written b.item
key_is levels rest middle b =
    let long : length (written b.item) ≡ length rest - length middle =
    omega (arith, ap length b.parts, length-append (written b.item) middle) in
    ap (take (length rest - length middle)) b.parts
    ∙ take_at (written b.item) middle (length rest - length middle) long

pub key_long : (levels : ℕ) (rest middle : List ℕ) → BeginsItem levels rest middle
    → 0 < length (take (length rest - length middle) rest)
key_long levels rest middle b =
    subst (λ (k : List ℕ). 0 < length k) (sym (key_is levels rest middle b)) (item_long levels rest middle b)

pub pairs_go : (levels all : ℕ) (bytes : List ℕ) (left : ℕ) (before : Option (List ℕ))
    (rest middle next key : List ℕ) → 0 < left → PairsGo levels all bytes left before rest
    → (b : BeginsItem levels rest middle) → key ≡ written b.item → ComesAfter before key
    → BeginsItem levels middle next → PairsGo levels all bytes (left - 1) (Some key) next
pairs_go levels all bytes left before rest middle next key some go b is comes value = record {
  same = λ u. (
    (λ p. (go.same u).0 (one_more_pair levels left before rest middle next u some b value (subst (ComesAfter before)
        is comes) (subst (λ (k : List ℕ). BeginsPairs levels (left - 1) (Some k) next u) is p))),
    (λ p.
        let f = first_pair levels left before rest u some ((go.same u).1 p) in
        let keys = only_one levels rest f.middle middle f.key b in
        let there : BeginsItem levels middle f.next =
        subst (λ (s : List ℕ). BeginsItem levels s f.next) keys.1 f.value in
        let values = only_one levels middle f.next next there value in
        let same_key : written f.key.item ≡ key = ap written keys.0 ∙ sym is in
        subst (λ (s : List ℕ). BeginsPairs levels (left - 1) (Some key) s u) values.1
        (subst (λ (k : List ℕ). BeginsPairs levels (left - 1) (Some k) f.next u) same_key f.others)),
  );
  long = subst (λ (k : List ℕ). 0 < length k) (sym is) (item_long levels rest middle b);
}

pub pairs_end : (levels all : ℕ) (bytes : List ℕ) (left : ℕ) (before : Option (List ℕ)) (rest : List ℕ) → left ≡ 0
    → PairsGo levels all bytes left before rest → BeginsPairs levels all None bytes rest
pairs_end levels all bytes left before rest none go =
    (go.same rest).0 (record {
      pairs = no_pairs;
      counted = sym none;
      writable = tt;
      ascend = tt;
      ordered = tt;
      shallow = omega arith;
      parts = refl;
    })

pub no_key_left : (levels all : ℕ) (bytes : List ℕ) (left : ℕ) (before : Option (List ℕ)) (rest : List ℕ) → 0 < left
    → PairsGo levels all bytes left before rest → Leaves (BeginsItem levels rest) None
    → Leaves (BeginsPairs levels all None bytes) None
no_key_left levels all bytes left before rest some go none = λ u p.
    let f = first_pair levels left before rest u some ((go.same u).1 p) in
    none f.middle f.key

pub no_value_left : (levels all : ℕ) (bytes : List ℕ) (left : ℕ) (before : Option (List ℕ)) (rest middle : List ℕ)
    → 0 < left → PairsGo levels all bytes left before rest → BeginsItem levels rest middle
    → Leaves (BeginsItem levels middle) None → Leaves (BeginsPairs levels all None bytes) None
no_value_left levels all bytes left before rest middle some go b none = λ u p.
    let f = first_pair levels left before rest u some ((go.same u).1 p) in
    let keys = only_one levels rest f.middle middle f.key b in
    none f.next (subst (λ (s : List ℕ). BeginsItem levels s f.next) keys.1 f.value)

pub out_of_order : (levels all : ℕ) (bytes : List ℕ) (left : ℕ) (before : Option (List ℕ)) (rest middle key :
    List ℕ) → 0 < left → PairsGo levels all bytes left before rest → (b : BeginsItem levels rest middle)
    → key ≡ written b.item → (ComesAfter before key → ⊥) → Leaves (BeginsPairs levels all None bytes) None
out_of_order levels all bytes left before rest middle key some go b is not = λ u p.
    let f = first_pair levels left before rest u some ((go.same u).1 p) in
    let keys = only_one levels rest f.middle middle f.key b in
    not (subst (ComesAfter before) (ap written keys.0 ∙ sym is) f.comes)

-- ---- a list after its head

pub array_left : (levels inner : ℕ) (len : Option ℕ) (n : ℕ) (h : Head) (bytes : List ℕ) (r : Option (List ℕ))
    → h ≡ head.Array len → len ≡ Some n → (1 ≤ levels) × (inner ≡ levels - 1) → Leaves (BeginsItems inner n bytes) r
    → Leaves (BeginsContent levels h bytes) r
array_left levels inner len n h bytes (Some rest) is some deeper l =
    rw (is, some) (deeper.0, subst (λ (k : ℕ). BeginsItems k n bytes rest) deeper.1 l)
array_left levels inner len n h bytes None is some deeper none =
    rw (is, some) (λ rest b. none rest (subst (λ (k : ℕ). BeginsItems k n bytes rest) (sym deeper.1) b.1))

pub map_left : (levels inner : ℕ) (len : Option ℕ) (n : ℕ) (h : Head) (bytes : List ℕ) (r : Option (List ℕ))
    → h ≡ head.Map len → len ≡ Some n → (1 ≤ levels) × (inner ≡ levels - 1)
    → Leaves (BeginsPairs inner n None bytes) r → Leaves (BeginsContent levels h bytes) r
map_left levels inner len n h bytes (Some rest) is some deeper l =
    rw (is, some) (deeper.0, subst (λ (k : ℕ). BeginsPairs k n None bytes rest) deeper.1 l)
map_left levels inner len n h bytes None is some deeper none =
    rw (is, some) (λ rest b. none rest (subst (λ (k : ℕ). BeginsPairs k n None bytes rest) (sym deeper.1) b.1))

-- ---- the whole

pub is_false : false ≡ true → ⊥
is_false e = absurd cc

pub is_whole : (bytes : List ℕ) → BeginsItem max_depth bytes [] → IsCanonical bytes
is_whole bytes b = record {
  item = b.item;
  writable = b.writable;
  shallow = b.shallow;
  ordered = b.ordered;
  whole = b.parts ∙ sym (end_nil (written b.item));
}

pub whole_is : (bytes : List ℕ) → IsCanonical bytes → BeginsItem max_depth bytes []
whole_is bytes c = record {
  item = c.item;
  writable = c.writable;
  ordered = c.ordered;
  shallow = c.shallow;
  parts = c.whole ∙ end_nil (written c.item);
}
