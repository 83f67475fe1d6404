-- What a cursor passed of what is to be decoded.
use Rattle.std.proofs.Common.{◌≡◌, ℕ, zero, suc, ◌+◌, ◌-◌, ◌^◌, ◌<◌, ◌≤◌, Bool, true, false, List, length, drop, get_or, set, min, Option, Some, None, refl, sym, ap, subst, ◌∙◌, arith}
use Rattle.std.proofs.Common.{◌≢◌, get_or-set_same, get_or-set_other}
use Rattle.std.proofs.lemmas.List.{length-drop, length-set}
use Rattle.passkey_cbor.specs.Item.{Item}
use Rattle.passkey_cbor.specs.HeadReading.{◌>>=◌, Read, head_at}
use Rattle.passkey_cbor.specs.Reading.{Reader, start, is_break, item_by, item_within, string_at}
use Rattle.passkey_cbor.specs.HeadsDecoded.{Tally, start_heads, begun_heads, item_heads_by, item_heads, string_heads}
use Rattle.passkey_cbor.specs.Leaf.{IsLeafLen}
use Rattle.passkey_cbor.specs.Lent.{string_item, string_head}
use Rattle.passkey_cbor.specs.CursorState.{CursorState, ahead, raised, IsInside}
use Rattle.passkey_cbor.specs.HeadCount.{content_len}
use Rattle.passkey_cbor.specs.Steps.{HeadRead, NoHead, Skips}
use Rattle.passkey_cbor.specs.Courses.{Course, after_heads, over, fault, resumed, ◌▸◌, rest_of, item_course, item_after, items_course, pairs_course, open_course, opened_course, Advances, Fails, Takes, begins_break, BeginsItem, NoBreak, PassesElement, BeginsElement, IsPart, IsInnerPart, IsPartOf}
use Rattle.passkey_cbor.specs.declared.head.Head.{Head}
use Rattle.passkey_cbor.specs.declared.head.Head.TheVariants as head
use Rattle.passkey_cbor.specs.declared.skip.Open.{Open}
use Rattle.passkey_cbor.specs.declared.skip.Open.TheVariants as opens
use Rattle.passkey_cbor.specs.declared.skip.Part.{Part}
use Rattle.passkey_cbor.specs.declared.skip.Part.TheVariants as part
use Rattle.passkey_cbor.proofs.skipping.After.{by_flat, by_string, flat_skipped, headed_skipped}
use Rattle.passkey_cbor.proofs.items.Binds.{none_is_some}
use Rattle.passkey_cbor.proofs.heads.HeadCounts.{spans_none, spans_then, spans_head, spans_flat}
use Rattle.passkey_cbor.proofs.heads.HeadsDecoded.{decoded_then, started, flat_heads, headed_string}
use Rattle.passkey_cbor.proofs.items.Leaves.{leaf_passed}
use Rattle.passkey_cbor.proofs.heads.Raised.{raised-raised}
use Rattle.passkey_cbor.proofs.skipping.Skipping.{passed_none, passed_then, stopped_none, stopped_then, skips_started}
use Rattle.passkey_cbor.proofs.skipping.Courses.{course, after_after, after_none, after_then, then_then, then_over, rest_is, headed, no_item, items_none, items_one, items_to_break, items_end, pairs_to_break, pairs_end, open_items, open_value, open_tag, after_array, after_map, flat_array, flat_map, flat_tag}

-- ---- one after the other

pub nothing_passed : (whole : Course) (others : List ℕ → Course) (a : CursorState) → IsInside a → whole ≡ others (ahead a)
    → Advances whole others a a
nothing_passed whole others a inside e = record {
  number = 0;
  decoded = refl;
  same = e ∙ sym (after_none (others (ahead a)));
  passed = passed_none a inside;
  spans = spans_none a;
}

pub both_passed : (whole : Course) (f g : List ℕ → Course) (a b c : CursorState) → Advances whole f a b
    → Advances (f (ahead b)) g b c → Advances whole g a c
both_passed whole f g a b c p q = record {
  number = p.number + q.number;
  decoded = decoded_then a b c p.number q.number _ p.decoded q.decoded refl;
  same = p.same ∙ ap (after_heads p.number) q.same ∙ after_after p.number q.number (g (ahead c));
  passed = passed_then a b c p.passed q.passed;
  spans = spans_then 0 a b c p.spans q.spans;
}

pub passed_as : (whole part : Course) (f : List ℕ → Course) (a b : CursorState) → whole ≡ part → Advances part f a b
    → Advances whole f a b
passed_as whole part f a b e p =
    record { number = p.number; decoded = p.decoded; same = e ∙ p.same; passed = p.passed; spans = p.spans }

pub passed_to : (whole : Course) (f g : List ℕ → Course) (a b : CursorState) → f (ahead b) ≡ g (ahead b) → Advances whole f a b
    → Advances whole g a b
passed_to whole f g a b e p = record {
  number = p.number;
  decoded = p.decoded;
  same = p.same ∙ ap (after_heads p.number) e;
  passed = p.passed;
  spans = p.spans;
}

-- a whole, and what comes after it
pub passed_whole : (whole : Course) (others : List ℕ → Course) (a b : CursorState) → Advances whole over a b
    → Advances (whole ▸ others) others a b
passed_whole whole others a b p = record {
  number = p.number;
  decoded = p.decoded;
  same = ap (λ (c : Course). c ▸ others) p.same ∙ after_then p.number (over (ahead b)) others
      ∙ ap (after_heads p.number) (after_none (others (ahead b)));
  passed = p.passed;
  spans = p.spans;
}

-- a part, and what comes after the whole
pub passed_part : (whole : Course) (f others : List ℕ → Course) (a b : CursorState) → Advances whole f a b
    → Advances (whole ▸ others) (λ rest. f rest ▸ others) a b
passed_part whole f others a b p = record {
  number = p.number;
  decoded = p.decoded;
  same = ap (λ (c : Course). c ▸ others) p.same ∙ after_then p.number (f (ahead b)) others;
  passed = p.passed;
  spans = p.spans;
}

pub then_failed : (whole : Course) (f : List ℕ → Course) (a b c : CursorState) → Advances whole f a b
    → Fails (f (ahead b)) b c → Fails whole a c
then_failed whole f a b c p q = record {
  number = p.number + q.number;
  decoded = decoded_then a b c p.number q.number _ p.decoded q.decoded refl;
  same = p.same ∙ ap (after_heads p.number) q.same;
  stopped = stopped_then a b c p.passed q.stopped;
}

pub failed_whole : (whole : Course) (others : List ℕ → Course) (a b : CursorState) → Fails whole a b → Fails (whole ▸ others) a b
failed_whole whole others a b p = record {
  number = p.number;
  decoded = p.decoded;
  same = ap (λ (c : Course). c ▸ others) p.same;
  stopped = p.stopped;
}

-- ---- data items

-- by what skipping says
pub item_taken : (levels : ℕ) (a b : CursorState) (found : Bool) → Skips 0 (start (item_within levels) (ahead a)) a b found
    → b.heads ≡ raised a.heads (start_heads (item_heads levels) (ahead a)) → Takes (item_course levels (ahead a)) a b found
unfolding item_course
item_taken levels a b true s counted =
    let n = start_heads (item_heads levels) (ahead a) in
    let sum : n ≡ n + 0 = omega arith in
    record {
      number = n;
      decoded = counted;
      same = ap (λ (o : Read Item). course (rest_of o) n) s.reads ∙ ap (course (Some (ahead b))) sum;
      passed = s.passed;
      spans = s.spans;
    }
item_taken levels a b false s counted =
    let n = start_heads (item_heads levels) (ahead a) in
    record {
      number = n;
      decoded = counted;
      same = ap (λ (o : Read Item). course (rest_of o) n) s.reads;
      stopped = s.stopped;
    }

none_read : (read : Read Item) → rest_of read ≡ None → read ≡ None
none_read None e = refl
none_read (Some x) e = absurd (none_is_some x.1 (sym e))

pub item_skips : (levels : ℕ) (a b : CursorState) (found : Bool) → Takes (item_course levels (ahead a)) a b found
    → Skips 0 (start (item_within levels) (ahead a)) a b found
unfolding item_course
item_skips levels a b true p =
    let x = rest_is (start (item_within levels) (ahead a)) (ahead b) (ap (λ (c : Course). c.rest) p.same) in
    record { value = x.0; reads = x.1; passed = p.passed; spans = p.spans }
item_skips levels a b false p = record {
  reads = none_read (start (item_within levels) (ahead a)) (ap (λ (c : Course). c.rest) p.same);
  stopped = p.stopped;
}

pub item_counts : (levels : ℕ) (a b : CursorState) (found : Bool) → Takes (item_course levels (ahead a)) a b found
    → b.heads ≡ raised a.heads (start_heads (item_heads levels) (ahead a))
unfolding item_course
item_counts levels a b true p =
    let sum : start_heads (item_heads levels) (ahead a) ≡ p.number = omega (arith, ap (λ (c : Course). c.heads) p.same) in
    p.decoded ∙ ap (raised a.heads) (sym sum)
item_counts levels a b false p = p.decoded ∙ ap (raised a.heads) (sym (ap (λ (c : Course). c.heads) p.same))

-- at least one head is decoded
one_begun : (levels : ℕ) (o : Read Head) → 0 < begun_heads (item_heads levels) o
one_begun levels None = omega arith
one_begun levels (Some h) = omega arith

raised_once : (n k : ℕ) → 0 < k → raised n 1 ≤ raised n k
raised_once n zero some = absurd (omega arith)
raised_once n (suc k) some = omega arith

pub item_least : (levels : ℕ) (a b : CursorState) (found : Bool) → Takes (item_course levels (ahead a)) a b found
    → raised a.heads 1 ≤ b.heads
item_least levels a b found p =
    let counted = item_counts levels a b found p in
    omega (arith, raised_once a.heads (start_heads (item_heads levels) (ahead a)) (one_begun levels (head_at (ahead a))))

-- ---- the next head

pub head_passed : (a b : CursorState) (h : Head) → HeadRead a b h → content_len h ≡ 0 → (levels : ℕ)
    → Advances (item_course levels (ahead a)) (item_after levels h) a b
head_passed a b h r none levels = record {
  number = 1;
  decoded = r.counted;
  same = headed levels h (ahead a) (ahead b) r.reads;
  passed = r.passed;
  spans = spans_head a b b h r (spans_flat (content_len h) b none);
}

-- a data item whose head says what is in it
begun : (a b : CursorState) (h : Head) (inner : Open) → HeadRead a b h → content_len h ≡ 0 → is_break h ≡ false
    → item_after 0 h (ahead b) ≡ fault 0
    → ((levels : ℕ) → item_after (suc levels) h (ahead b) ≡ open_course levels inner (ahead b))
    → IsPart a b (part.Head inner)
begun a b h inner r none goes_on flat deeper = (
  ap begins_break r.reads ∙ goes_on,
  record {
    flat = record {
      number = 1;
      decoded = r.counted;
      same = headed 0 h (ahead a) (ahead b) r.reads ∙ ap (after_heads 1) flat;
      stopped = stopped_then a b b r.passed (stopped_none b r.passed.within);
    };
    deeper = λ levels. passed_to (item_course (suc levels) (ahead a)) (item_after (suc levels) h)
        (open_course levels inner) a b (deeper levels) (head_passed a b h r none (suc levels));
    further = r.further;
  },
)

pub array_begun : (a b : CursorState) (h : Head) (len : Option ℕ) (inner : Open) → h ≡ head.Array len → HeadRead a b h
    → ((levels : ℕ) (bytes : List ℕ) → open_course levels inner bytes ≡ items_course levels len bytes)
    → IsPart a b (part.Head inner)
array_begun a b h len inner is r same =
    begun a b (head.Array len) inner (subst (λ (g : Head). HeadRead a b g) is r) refl refl (flat_array len (ahead b))
    (λ levels. after_array levels len (ahead b) ∙ sym (same levels (ahead b)))

pub map_begun : (a b : CursorState) (h : Head) (len : Option ℕ) (inner : Open) → h ≡ head.Map len → HeadRead a b h
    → length a.bytes < 2 ^ 64 → ((levels : ℕ) (bytes : List ℕ) → length bytes < 2 ^ 64 - 1
    → open_course levels inner bytes ≡ pairs_course levels len bytes) → IsPart a b (part.Head inner)
map_begun a b h len inner is r few same =
    let fewer : length (ahead b) < 2 ^ 64 - 1 =
    omega (arith, r.further, few, ap length r.passed.same, length-drop b.place b.bytes) in
    begun a b (head.Map len) inner (subst (λ (g : Head). HeadRead a b g) is r) refl refl (flat_map len (ahead b))
    (λ levels. after_map levels len (ahead b) ∙ sym (same levels (ahead b) fewer))

pub tag_begun : (a b : CursorState) (h : Head) (n : ℕ) → h ≡ head.Tag n → HeadRead a b h
    → IsPart a b (part.Head (opens.Items 1))
tag_begun a b h n is r =
    begun a b (head.Tag n) (opens.Items 1) (subst (λ (g : Head). HeadRead a b g) is r) refl refl (flat_tag n (ahead b))
    (λ levels. open_tag levels n (ahead b))

-- a head alone
pub alone : (a b : CursorState) (h g : Head) (x : Item) → h ≡ g → HeadRead a b h → content_len g ≡ 0 → is_break g ≡ false
    → ((inner : Option (Reader Item)) → item_by inner g (ahead b) ≡ Some (x, ahead b))
    → ((inner : Option (Reader Item × Tally)) → item_heads_by inner g (ahead b) ≡ 0) → IsPart a b part.Item
alone a b h g x is r none goes_on reads heads = (
  ap begins_break r.reads ∙ ap is_break is ∙ goes_on,
  record {
    advances = λ levels. item_taken levels a b true
        (skips_started (item_within levels) h a b b true r
        (flat_skipped (content_len h) (item_within levels h (ahead b)) x b r.passed.within (ap content_len is ∙ none)
        (by_flat levels h g x (ahead b) is reads)))
        (decoded_then a b b 1 0 _ r.counted refl
        (started (item_heads levels) (ahead a) (ahead b) h r.reads ∙ ap suc (flat_heads levels h g (ahead b) is heads)));
    further = r.further;
  },
)

-- a string
string_taken : (levels : ℕ) (is_text : Bool) (len : Option ℕ) (h : Head) (a b c : CursorState) (found : Bool)
    → h ≡ string_head is_text len → HeadRead a b h
    → Skips (content_len (string_head is_text len)) (string_at is_text len (ahead b)) b c found
    → c.heads ≡ raised b.heads (string_heads is_text len (ahead b)) → Takes (item_course levels (ahead a)) a c found
string_taken levels is_text len h a b c found is r s counted =
    item_taken levels a c found
    (skips_started (item_within levels) h a b c found r
    (headed_skipped h (string_head is_text len) (string_at is_text len (ahead b)) _ (string_item is_text) b c found is
    (by_string levels is_text len h (ahead b) is) s))
    (decoded_then a b c 1 (item_heads levels h (ahead b)) _ r.counted
    (counted ∙ ap (raised b.heads) (sym (headed_string levels is_text len h (ahead b) is)))
    (started (item_heads levels) (ahead a) (ahead b) h r.reads ∙ omega arith))

pub string_passed : (is_text : Bool) (len : Option ℕ) (h : Head) (a b c : CursorState) (found : Bool) → true ≡ found
    → h ≡ string_head is_text len → is_break (string_head is_text len) ≡ false → HeadRead a b h
    → Skips (content_len (string_head is_text len)) (string_at is_text len (ahead b)) b c found
    → c.heads ≡ raised b.heads (string_heads is_text len (ahead b)) → IsPart a c part.Item
string_passed is_text len h a b c found so is goes_on r s counted =
    let one = subst (λ (f : Bool). Skips (content_len (string_head is_text len)) (string_at is_text len (ahead b)) b c f)
    (sym so) s in (
      ap begins_break r.reads ∙ ap is_break is ∙ goes_on,
      record {
        advances = λ levels. string_taken levels is_text len h a b c true is r one counted;
        further = omega (arith, r.further, one.passed.forward);
      },
    )

pub string_failed : (is_text : Bool) (len : Option ℕ) (h : Head) (a b c : CursorState) (found : Bool) → false ≡ found
    → h ≡ string_head is_text len → is_break (string_head is_text len) ≡ false → HeadRead a b h
    → Skips (content_len (string_head is_text len)) (string_at is_text len (ahead b)) b c found
    → c.heads ≡ raised b.heads (string_heads is_text len (ahead b)) → IsPart a c part.Malformed
string_failed is_text len h a b c found so is goes_on r s counted =
    let none = subst (λ (f : Bool). Skips (content_len (string_head is_text len)) (string_at is_text len (ahead b)) b c f)
    (sym so) s in
    (ap begins_break r.reads ∙ ap is_break is ∙ goes_on, λ levels. string_taken levels is_text len h a b c false is r none counted)

-- no well-formed head
head_failed : (levels : ℕ) (a b : CursorState) → NoHead (head_at (ahead a)) a b → b.heads ≡ raised a.heads 1
    → Fails (item_course levels (ahead a)) a b
unfolding item_course
head_failed levels a b r counted = record {
  number = 1;
  decoded = counted;
  same = ap (λ (o : Read Head). course (rest_of (o >>= λ h. item_within levels h.0 h.1)) (begun_heads (item_heads levels) o)) r.reads;
  stopped = r.stopped;
}

pub no_head : (a b : CursorState) → NoHead (head_at (ahead a)) a b → b.heads ≡ raised a.heads 1 → IsPart a b part.Malformed
no_head a b r counted = (ap begins_break r.reads, λ levels. head_failed levels a b r counted)

-- a break, where a data item is wanted
pub break_failed : (levels : ℕ) (a b : CursorState) → HeadRead a b head.Break → Fails (item_course levels (ahead a)) a b
break_failed levels a b r = record {
  number = 1;
  decoded = r.counted;
  same = no_item levels (ahead a) (ahead b) r.reads;
  stopped = stopped_then a b b r.passed (stopped_none b r.passed.within);
}

-- ---- data items passed at once

pub leaf_advances : (levels n : ℕ) (a b : CursorState) → IsInside a → 0 < n → IsLeafLen (ahead a) n
    → b ≡ record a { place = a.place + n; heads = raised a.heads 1 } → a.heads ≤ b.heads
    → Advances (item_course levels (ahead a)) over a b
leaf_advances levels n a b inside some l is rises =
    item_taken levels a b true (leaf_passed a b levels n inside some l is rises)
    (ap (λ (w : CursorState). w.heads) is ∙ ap (raised a.heads) (sym (l.heads levels)))

-- one data item fewer is left
pub one_passed : (levels n left : ℕ) (a b : CursorState) → left ≡ suc n → Advances (item_course levels (ahead a)) over a b
    → Advances (items_course levels (Some left) (ahead a)) (items_course levels (Some n)) a b
one_passed levels n left a b one p =
    passed_as (items_course levels (Some left) (ahead a)) (item_course levels (ahead a) ▸ items_course levels (Some n))
    (items_course levels (Some n)) a b
    (ap (λ (k : ℕ). items_course levels (Some k) (ahead a)) one ∙ items_one levels n (ahead a))
    (passed_whole (item_course levels (ahead a)) (items_course levels (Some n)) a b p)

-- the cursor at another offset, with so many more heads
abbrev moved : CursorState → ℕ → ℕ → CursorState
moved w place n = record w { place = place; heads = raised w.heads n }

raised_more : (n k : ℕ) → n ≤ 2 ^ 128 - 1 → raised n k ≤ raised n (k + 1)
raised_more n zero fits = let one : raised n 1 ≡ min (n + 1) (2 ^ 128 - 1) = refl in omega arith
raised_more n (suc k) fits =
    let next : suc k + 1 ≡ suc (suc k) = omega arith in
    let more : raised n (suc k) ≤ raised n (suc (suc k)) = omega arith in
    rw next more

raised_is : (n k : ℕ) → n ≤ 2 ^ 128 - 1 → min (n + k) (2 ^ 128 - 1) ≡ raised n k
raised_is n zero fits = omega arith
raised_is n (suc k) fits = refl

-- The invariant of a loop that passes data items of one head each up to this offset, and counts them later.
pub record Leaves (most left place : ℕ) (a : CursorState) : Type 0 where
  pub few : left ≤ most
  pub within : place ≤ length a.bytes
  pub advances : a.heads ≤ 2 ^ 128 - 1 → (levels : ℕ) → Advances (items_course levels (Some most) (ahead a))
      (items_course levels (Some left)) a (moved a place (most - left))

pub leaves_none : (most place : ℕ) (a : CursorState) → IsInside a → place ≡ a.place → Leaves most most place a
leaves_none most place a inside is =
    let none : most - most ≡ 0 = omega arith in
    let here : moved a place (most - most) ≡ a =
    ap (λ (p : ℕ). moved a p (most - most)) is ∙ ap (moved a a.place) none in
    record {
      few = omega arith;
      within = omega arith;
      advances = λ fits levels. subst
          (λ (w : CursorState). Advances (items_course levels (Some most) (ahead a)) (items_course levels (Some most)) a w)
          (sym here)
          (nothing_passed (items_course levels (Some most) (ahead a)) (items_course levels (Some most)) a inside refl);
    }

pub leaves_one : (most left n place len : ℕ) (a : CursorState) → Leaves most left place a → left ≡ suc n → 0 < len
    → IsLeafLen (drop place a.bytes) len → Leaves most n (place + len) a
leaves_one most left n place len a t one some leaf =
    let b = moved a place (most - left) in
    let c = moved a (place + len) (most - n) in
    let count : most - n ≡ (most - left) + 1 = omega (arith, t.few) in
    let within : place + len ≤ length a.bytes = omega (arith, leaf.within, t.within, length-drop place a.bytes) in
    let is : c ≡ record b { place = b.place + len; heads = raised b.heads 1 } =
    ap (λ (h : ℕ). record a { place = place + len; heads = h })
    (ap (raised a.heads) count ∙ sym (raised-raised a.heads (most - left) 1)) in
    record {
      few = omega (arith, t.few);
      within = within;
      advances = λ fits levels. both_passed (items_course levels (Some most) (ahead a)) (items_course levels (Some left))
          (items_course levels (Some n)) a b c (t.advances fits levels)
          (one_passed levels n left b c one (leaf_advances levels len b c t.within some leaf is
          (omega (arith, raised_more a.heads (most - left) fits, ap (raised a.heads) count))));
    }

pub leaves_passed : (most left place : ℕ) (a b : CursorState) → Leaves most left place a
    → b ≡ record a { place = place; heads = min (a.heads + (most - left)) (2 ^ 128 - 1) } → a.heads ≤ b.heads
    → (levels : ℕ) → Advances (items_course levels (Some most) (ahead a)) (items_course levels (Some left)) a b
leaves_passed most left place a b t is rises levels =
    let fits : a.heads ≤ 2 ^ 128 - 1 = omega (arith, ap (λ (w : CursorState). w.heads) is) in
    let same : b ≡ moved a place (most - left) =
    is ∙ ap (λ (h : ℕ). record a { place = place; heads = h }) (raised_is a.heads (most - left) fits) in
    subst (λ (w : CursorState). Advances (items_course levels (Some most) (ahead a)) (items_course levels (Some left)) a w)
    (sym same) (t.advances fits levels)

pub leaves_missed : (most left : ℕ) (a : CursorState) → IsInside a → left ≡ most
    → (levels : ℕ) → Advances (items_course levels (Some most) (ahead a)) (items_course levels (Some left)) a a
leaves_missed most left a inside same levels =
    nothing_passed (items_course levels (Some most) (ahead a)) (items_course levels (Some left)) a inside
    (ap (λ (n : ℕ). items_course levels (Some n) (ahead a)) (sym same))

-- a data item with others in it, which are taken
pub list_taken : (levels : ℕ) (inner : Open) (a b c : CursorState) (found : Bool) → BeginsItem inner a b
    → Takes (open_course levels inner (ahead b)) b c found → Takes (item_course (suc levels) (ahead a)) a c found
list_taken levels inner a b c true q p =
    both_passed (item_course (suc levels) (ahead a)) (open_course levels inner) over a b c (q.deeper levels) p
list_taken levels inner a b c false q p =
    then_failed (item_course (suc levels) (ahead a)) (open_course levels inner) a b c (q.deeper levels) p

-- ---- the next data items of an open list

-- a data item in it, and what is left after it
pub inner_part : (before after : Open) (a b c : CursorState) (p : Part) → ((levels : ℕ) → Advances
    (open_course levels before (ahead a)) (λ rest. item_course levels rest ▸ open_course levels after) a b)
    → IsInnerPart b c p → IsPartOf before after a c p
inner_part before after a b c part.Malformed first q = λ levels.
    then_failed (open_course levels before (ahead a)) (λ rest. item_course levels rest ▸ open_course levels after) a b c
    (first levels) (failed_whole (item_course levels (ahead b)) (open_course levels after) b c (q levels))
inner_part before after a b c part.End first q = absurd q
inner_part before after a b c part.Item first q = record {
  advances = λ levels. both_passed (open_course levels before (ahead a))
      (λ rest. item_course levels rest ▸ open_course levels after) (open_course levels after) a b c (first levels)
      (passed_whole (item_course levels (ahead b)) (open_course levels after) b c (q.advances levels));
  further = omega (arith, q.further, (first 0).passed.forward);
}
inner_part before after a b c (part.Head inner) first q = record {
  flat = then_failed (open_course 0 before (ahead a)) (λ rest. item_course 0 rest ▸ open_course 0 after) a b c
      (first 0) (failed_whole (item_course 0 (ahead b)) (open_course 0 after) b c q.flat);
  deeper = λ levels. both_passed (open_course (suc levels) before (ahead a))
      (λ rest. item_course (suc levels) rest ▸ open_course (suc levels) after)
      (λ rest. open_course levels inner rest ▸ open_course (suc levels) after) a b c (first (suc levels))
      (passed_part (item_course (suc levels) (ahead b)) (open_course levels inner) (open_course (suc levels) after) b c
      (q.deeper levels));
  further = omega (arith, q.further, (first 0).passed.forward);
}

-- the same where a break ends the list
to_break : (before after : Open) (a b : CursorState) (p : Part) → IsInside a
    → ((levels : ℕ) → NoBreak a → open_course levels before (ahead a)
    ≡ (item_course levels (ahead a) ▸ open_course levels after))
    → ((levels : ℕ) (rest : List ℕ) → head_at (ahead a) ≡ Some (head.Break, rest)
    → open_course levels before (ahead a) ≡ course (Some rest) 1) → IsPart a b p → IsPartOf before after a b p
to_break before after a b part.End inside next ends r = λ levels. record {
  number = 1;
  decoded = r.counted;
  same = ends levels (ahead b) r.reads;
  passed = r.passed;
  spans = spans_head a b b head.Break r (spans_none b);
}
to_break before after a b part.Malformed inside next ends q = inner_part before after a a b part.Malformed
    (λ levels. nothing_passed _ (λ rest. item_course levels rest ▸ open_course levels after) a inside (next levels q.0)) q.1
to_break before after a b part.Item inside next ends q = inner_part before after a a b part.Item
    (λ levels. nothing_passed _ (λ rest. item_course levels rest ▸ open_course levels after) a inside (next levels q.0)) q.1
to_break before after a b (part.Head inner) inside next ends q = inner_part before after a a b (part.Head inner)
    (λ levels. nothing_passed _ (λ rest. item_course levels rest ▸ open_course levels after) a inside (next levels q.0)) q.1

pub items_part : (a b : CursorState) (p : Part) → IsInside a → IsPart a b p
    → IsPartOf opens.ItemsToBreak opens.ItemsToBreak a b p
unfolding open_course
items_part a b p inside q = to_break opens.ItemsToBreak opens.ItemsToBreak a b p inside
    (λ levels. items_to_break levels (ahead a)) (λ levels. items_end levels (ahead a)) q

pub pairs_part : (a b : CursorState) (p : Part) → IsInside a → IsPart a b p
    → IsPartOf opens.PairsToBreak opens.ValueToBreak a b p
unfolding open_course
pairs_part a b p inside q = to_break opens.PairsToBreak opens.ValueToBreak a b p inside
    (λ levels. pairs_to_break levels (ahead a)) (λ levels. pairs_end levels (ahead a)) q

pub value_part : (a b : CursorState) (p : Part) → IsInside a → IsInnerPart a b p
    → IsPartOf opens.ValueToBreak opens.PairsToBreak a b p
value_part a b p inside q = inner_part opens.ValueToBreak opens.PairsToBreak a a b p
    (λ levels. nothing_passed _ (λ rest. item_course levels rest ▸ open_course levels opens.PairsToBreak) a inside
    (open_value levels (ahead a))) q

-- after some data items that were passed at once
pub leaves_end : (left none : ℕ) (a b : CursorState) → none ≡ 0
    → ((levels : ℕ) → Advances (items_course levels (Some left) (ahead a)) (items_course levels (Some none)) a b)
    → (after : Open) → IsPartOf (opens.Items left) after a b part.End
leaves_end left none a b is first after = λ levels.
    passed_as (open_course levels (opens.Items left) (ahead a)) (items_course levels (Some left) (ahead a)) over a b
    (open_items levels left (ahead a))
    (passed_to (items_course levels (Some left) (ahead a)) (items_course levels (Some none)) over a b
    (ap (λ (n : ℕ). items_course levels (Some n) (ahead b)) is ∙ items_none levels (ahead b)) (first levels))

pub leaves_part : (left more n : ℕ) (a b c : CursorState) (p : Part) → more ≡ suc n
    → ((levels : ℕ) → Advances (items_course levels (Some left) (ahead a)) (items_course levels (Some more)) a b)
    → IsInnerPart b c p → IsPartOf (opens.Items left) (opens.Items n) a c p
unfolding open_course
leaves_part left more n a b c p one first q = inner_part (opens.Items left) (opens.Items n) a b c p (λ levels.
    passed_as (open_course levels (opens.Items left) (ahead a)) (items_course levels (Some left) (ahead a))
    (λ rest. item_course levels rest ▸ open_course levels (opens.Items n)) a b (open_items levels left (ahead a))
    (passed_to (items_course levels (Some left) (ahead a)) (items_course levels (Some more))
    (λ rest. item_course levels rest ▸ open_course levels (opens.Items n)) a b (one_left levels) (first levels))) q where
      one_left : (levels : ℕ) → items_course levels (Some more) (ahead b)
          ≡ (item_course levels (ahead b) ▸ open_course levels (opens.Items n))
      one_left levels = ap (λ (k : ℕ). items_course levels (Some k) (ahead b)) one ∙ items_one levels n (ahead b)

-- ---- open lists

pub opened_none : (levels : ℕ) (xs : List Open) (bytes : List ℕ) → opened_course levels xs 0 bytes ≡ over bytes
unfolding opened_course
opened_none levels xs bytes = refl

pub opened_one : (levels n : ℕ) (xs : List Open) (bytes : List ℕ) → opened_course levels xs (suc n) bytes
    ≡ (open_course (levels - n) (get_or xs n (opens.Items 0)) bytes ▸ opened_course levels xs n)
unfolding opened_course
opened_one levels n xs bytes = refl

then_as : (c : Course) (f g : List ℕ → Course) → ((rest : List ℕ) → f rest ≡ g rest) → (c ▸ f) ≡ (c ▸ g)
then_as c f g same = by_rest c.rest c.heads where
  by_rest : (o : Option (List ℕ)) (n : ℕ) → resumed o n f ≡ resumed o n g
  by_rest None n = refl
  by_rest (Some rest) n = ap (after_heads n) (same rest)

-- what comes after the first n doesn't matter for them
pub opened_kept : (levels n i : ℕ) (xs : List Open) (x : Open) → n ≤ i → (bytes : List ℕ)
    → opened_course levels (set xs i x) n bytes ≡ opened_course levels xs n bytes
unfolding opened_course
opened_kept levels zero i xs x le bytes = refl
opened_kept levels (suc n) i xs x le bytes =
    let other : n ≢ i = omega arith in
    let here : get_or (set xs i x) n (opens.Items 0) ≡ get_or xs n (opens.Items 0) =
    get_or-set_other xs i n x (opens.Items 0) other in
    ap (λ (y : Open). open_course (levels - n) y bytes ▸ opened_course levels (set xs i x) n) here
    ∙ then_as (open_course (levels - n) (get_or xs n (opens.Items 0)) bytes) (opened_course levels (set xs i x) n)
    (opened_course levels xs n) (opened_kept levels n i xs x (omega arith))

pub opened_at : (levels n : ℕ) (xs : List Open) (x : Open) → n < length xs → (bytes : List ℕ)
    → opened_course levels (set xs n x) (suc n) bytes
    ≡ (open_course (levels - n) x bytes ▸ opened_course levels xs n)
opened_at levels n xs x within bytes =
    opened_one levels n (set xs n x) bytes
    ∙ ap (λ (y : Open). open_course (levels - n) y bytes ▸ opened_course levels (set xs n x) n)
    (get_or-set_same xs n x (opens.Items 0) within)
    ∙ then_as (open_course (levels - n) x bytes) (opened_course levels (set xs n x) n) (opened_course levels xs n)
    (opened_kept levels n n xs x (omega arith))

-- The invariant of the loop over open lists: what was skipped, and then what is left of them, is all of the first.
pub record Opened (whole : Course) (levels depth : ℕ) (xs : List Open) (old now : CursorState) : Type 0 where
  pub advances : Advances whole (opened_course levels xs depth) old now
  pub few : depth ≤ length xs
  pub shallow : depth ≤ levels + 1

pub opened_first : (levels : ℕ) (first : Open) (xs : List Open) (a : CursorState) → IsInside a → 0 < length xs
    → Opened (open_course levels first (ahead a)) levels 1 (set xs 0 first) a a
opened_first levels first xs a inside some =
    let all : levels - 0 ≡ levels = omega arith in
    record {
      advances = nothing_passed (open_course levels first (ahead a)) (opened_course levels (set xs 0 first) 1) a inside
          (sym (opened_at levels 0 xs first some (ahead a)
          ∙ ap (λ (k : ℕ). open_course k first (ahead a) ▸ opened_course levels xs 0) all
          ∙ then_as (open_course levels first (ahead a)) (opened_course levels xs 0) over (opened_none levels xs)
          ∙ then_over (open_course levels first (ahead a))));
      few = omega (arith, length-set xs 0 first);
      shallow = omega arith;
    }

-- the whole list is skipped
pub opened_over : (whole : Course) (levels depth : ℕ) (xs : List Open) (a b : CursorState)
    → Opened whole levels depth xs a b → depth ≡ 0 → Advances whole over a b
opened_over whole levels depth xs a b o none = passed_to whole (opened_course levels xs depth) over a b
    (ap (λ (n : ℕ). opened_course levels xs n (ahead b)) none ∙ opened_none levels xs (ahead b)) o.advances

-- the last open list, and those around it
module _ {whole : Course} {levels depth : ℕ} {xs : List Open} {a b : CursorState} (o : Opened whole levels depth xs a b)
    (n : ℕ) (one : depth ≡ suc n) (before after : Open) (is : before ≡ get_or xs n (opens.Items 0)) where
  split : Advances whole (λ rest. open_course (levels - n) before rest ▸ opened_course levels xs n) a b
  split = passed_to whole (opened_course levels xs depth)
      (λ rest. open_course (levels - n) before rest ▸ opened_course levels xs n) a b
      (ap (λ (k : ℕ). opened_course levels xs k (ahead b)) one ∙ opened_one levels n xs (ahead b)
      ∙ ap (λ (y : Open). open_course (levels - n) y (ahead b) ▸ opened_course levels xs n) (sym is)) o.advances

  pub opened_failed : (c : CursorState) → IsPartOf before after b c part.Malformed → Fails whole a c
  opened_failed c q = then_failed whole (λ rest. open_course (levels - n) before rest ▸ opened_course levels xs n) a b c
      split (failed_whole (open_course (levels - n) before (ahead b)) (opened_course levels xs n) b c (q (levels - n)))

  pub opened_end : (c : CursorState) → IsPartOf before after b c part.End → Opened whole levels n (set xs n after) a c
  opened_end c q = record {
    advances = passed_to whole (opened_course levels xs n) (opened_course levels (set xs n after) n) a c
        (sym (opened_kept levels n n xs after (omega arith) (ahead c)))
        (both_passed whole (λ rest. open_course (levels - n) before rest ▸ opened_course levels xs n)
        (opened_course levels xs n) a b c split
        (passed_whole (open_course (levels - n) before (ahead b)) (opened_course levels xs n) b c (q (levels - n))));
    few = omega (arith, o.few, length-set xs n after);
    shallow = omega (arith, o.shallow);
  }

  pub opened_item : (c : CursorState) → PassesElement before after b c → Opened whole levels depth (set xs n after) a c
  opened_item c q = record {
    advances = passed_to whole (λ rest. open_course (levels - n) after rest ▸ opened_course levels xs n)
        (opened_course levels (set xs n after) depth) a c
        (sym (ap (λ (k : ℕ). opened_course levels (set xs n after) k (ahead c)) one
        ∙ opened_at levels n xs after (omega (arith, o.few)) (ahead c)))
        (both_passed whole (λ rest. open_course (levels - n) before rest ▸ opened_course levels xs n)
        (λ rest. open_course (levels - n) after rest ▸ opened_course levels xs n) a b c split
        (passed_part (open_course (levels - n) before (ahead b)) (open_course (levels - n) after)
        (opened_course levels xs n) b c (q.advances (levels - n))));
    few = omega (arith, o.few, length-set xs n after);
    shallow = o.shallow;
  }

  -- a list in it, which is left
  around : (inner : Open) (c : CursorState) → BeginsElement before after inner b c → depth ≤ levels
      → Advances whole (λ rest. open_course (levels - depth) inner rest ▸ opened_course levels (set xs n after) depth) a c
  around inner c q deep =
      let k = levels - depth in
      let level : levels - n ≡ suc k = omega (arith, one) in
      let part : Advances (open_course (levels - n) before (ahead b))
      (λ rest. open_course k inner rest ▸ open_course (levels - n) after) b c =
      rw level (q.deeper k) in
      passed_to whole
      (λ rest. (open_course k inner rest ▸ open_course (levels - n) after) ▸ opened_course levels xs n)
      (λ rest. open_course k inner rest ▸ opened_course levels (set xs n after) depth) a c
      (then_then (open_course k inner (ahead c)) (open_course (levels - n) after) (opened_course levels xs n)
      ∙ then_as (open_course k inner (ahead c)) (λ rest. open_course (levels - n) after rest ▸ opened_course levels xs n)
      (opened_course levels (set xs n after) depth)
      (λ rest. sym (ap (λ (m : ℕ). opened_course levels (set xs n after) m rest) one
      ∙ opened_at levels n xs after (omega (arith, o.few)) rest)))
      (both_passed whole (λ rest. open_course (levels - n) before rest ▸ opened_course levels xs n)
      (λ rest. (open_course k inner rest ▸ open_course (levels - n) after) ▸ opened_course levels xs n) a b c split
      (passed_part (open_course (levels - n) before (ahead b))
      (λ rest. open_course k inner rest ▸ open_course (levels - n) after) (opened_course levels xs n) b c part))

  pub opened_inner : (inner : Open) (c : CursorState) → BeginsElement before after inner b c → depth ≤ levels
      → depth < length xs → Opened whole levels (depth + 1) (set (set xs n after) depth inner) a c
  opened_inner inner c q deep room =
      let ys = set xs n after in
      let more : depth + 1 ≡ suc depth = omega arith in
      record {
        advances = passed_to whole
            (λ rest. open_course (levels - depth) inner rest ▸ opened_course levels ys depth)
            (opened_course levels (set ys depth inner) (depth + 1)) a c
            (sym (ap (λ (m : ℕ). opened_course levels (set ys depth inner) m (ahead c)) more
            ∙ opened_at levels depth ys inner (omega (arith, room, length-set xs n after)) (ahead c)))
            (around inner c q deep);
        few = omega (arith, room, length-set xs n after, length-set ys depth inner);
        shallow = omega (arith, deep);
      }

  -- no deeper list is allowed
  pub opened_too_deep : (inner : Open) (c : CursorState) → BeginsElement before after inner b c → levels < depth
      → Fails whole a c
  opened_too_deep inner c q deep =
      let level : levels - n ≡ 0 = omega (arith, one) in
      let none : Fails (open_course (levels - n) before (ahead b)) b c = rw level q.flat in
      then_failed whole (λ rest. open_course (levels - n) before rest ▸ opened_course levels xs n) a b c split
      (failed_whole (open_course (levels - n) before (ahead b)) (opened_course levels xs n) b c none)

  -- another call skips it
  pub opened_called : (inner : Open) (c d : CursorState) → BeginsElement before after inner b c → depth ≤ levels
      → Advances (open_course (levels - depth) inner (ahead c)) over c d → Opened whole levels depth (set xs n after) a d
  opened_called inner c d q deep p = record {
    advances = both_passed whole
        (λ rest. open_course (levels - depth) inner rest ▸ opened_course levels (set xs n after) depth)
        (opened_course levels (set xs n after) depth) a c d (around inner c q deep)
        (passed_whole (open_course (levels - depth) inner (ahead c)) (opened_course levels (set xs n after) depth) c d p);
    few = omega (arith, o.few, length-set xs n after);
    shallow = o.shallow;
  }

  pub opened_call_failed : (inner : Open) (c d : CursorState) → BeginsElement before after inner b c → depth ≤ levels
      → Fails (open_course (levels - depth) inner (ahead c)) c d → Fails whole a d
  opened_call_failed inner c d q deep p =
      then_failed whole (λ rest. open_course (levels - depth) inner rest ▸ opened_course levels (set xs n after) depth)
      a c d (around inner c q deep)
      (failed_whole (open_course (levels - depth) inner (ahead c)) (opened_course levels (set xs n after) depth) c d p)
