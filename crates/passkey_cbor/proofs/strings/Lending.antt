-- Strings that a cursor passes and borrows.
use Rattle.std.proofs.Common.{◌≡◌, ℕ, ◌+◌, ◌-◌, ◌<◌, ◌≤◌, ◌==◌, ◌&&◌, nat_lt, Bool, true, false, List, [], ◌∷◌, ◌++◌, length, take, drop, suc, Option, Some, None, option_map, is_some, refl, sym, ap, subst, ◌∙◌, append_assoc, arith}
use Rattle.std.proofs.lemmas.List.{length-append, length-drop, length-take, drop-drop, take-append-drop, take_at}
use Rattle.std.proofs.lemmas.Bool.{eqb-true, ltb-true}
use Rattle.std.specs.Str.{bytes_eq}
use Rattle.passkey_cbor.specs.Bytes.{IsBytes}
use Rattle.passkey_cbor.specs.Item.{Item}
use Rattle.passkey_cbor.specs.Depth.{depth}
use Rattle.passkey_cbor.specs.Languages.{Then}
use Rattle.passkey_cbor.specs.Encoding.{IsEncoding, Strings}
use Rattle.passkey_cbor.specs.LeadingItem.{max_depth, IsLeadingItem}
use Rattle.passkey_cbor.specs.HeadEncoding.{LengthHeads, IsEncodingOfHead}
use Rattle.passkey_cbor.specs.Inside.{IsAllowed, major_type, Content}
use Rattle.passkey_cbor.specs.HeadReading.{◌>>=◌, head_at}
use Rattle.passkey_cbor.specs.HeadsDecoded.{begun_heads, string_heads, rest_heads, string_tally, string_decoded}
use Rattle.passkey_cbor.specs.Reading.{start, is_allowed, piece_at, string_len, string_at, string_by, item_within}
use Rattle.passkey_cbor.specs.CursorState.{CursorState, ahead, raised, IsInside, IsPlaced, Passed, Stopped}
use Rattle.passkey_cbor.specs.HeadCount.{content_len, heads_of, Spans}
use Rattle.std.specs.Prelude.{unwrap_or}
use Rattle.passkey_cbor.specs.Leaf.{Headed}
use Rattle.passkey_cbor.specs.Steps.{IsHead, NoHead, HeadRead, PieceRead, PassesOver, RegionRead, NoStringRead, ReadsString, IsLengthOf}
use Rattle.passkey_cbor.specs.Found.{PassesHead}
use Rattle.passkey_cbor.specs.Lent.{Region, string_item, string_head, begins_text, PassesString, LendsString, LendsEncoded, IsSized}
use Rattle.passkey_cbor.specs.declared.head.Head.{Head}
use Rattle.passkey_cbor.specs.declared.head.Head.TheVariants as head
use Rattle.passkey_cbor.proofs.items.Binds.{some_is, none_is_some, bind_at, bind_none}
use Rattle.passkey_cbor.proofs.strings.Strings.{starts, encodes_string_head, string_head_encodes, string_again, string_takes, string_headed, headed_string}
use Rattle.passkey_cbor.proofs.items.EncodedFrom.{stands_front, only_one}
use Rattle.passkey_cbor.proofs.items.LeadingItems.{front_again}
use Rattle.passkey_cbor.proofs.skipping.After.{by_string, string_piece}
use Rattle.passkey_cbor.proofs.items.Leaves.{piece_there, headed_one}
use Rattle.passkey_cbor.proofs.heads.Numbers.{IsBytes-drop}
use Rattle.passkey_cbor.proofs.skipping.Walks.{head_passed}
use Rattle.passkey_cbor.proofs.heads.HeadAgain.{head_again}
use Rattle.passkey_cbor.proofs.heads.ShortHeads.{string_in_initial}
use Rattle.passkey_cbor.proofs.heads.HeadCounts.{spans_as, spans_headed, spans_piece, heads_passed}
use Rattle.passkey_cbor.proofs.heads.HeadsDecoded.{decoded_then, started}
use Rattle.passkey_cbor.proofs.skipping.Skipping.{stopped_then}

-- ---- strings as data items

string_encoded : (is_text : Bool) (s t : List ℕ) → Strings (IsAllowed is_text) (major_type is_text) s t
    → IsEncoding (string_item is_text s) t
string_encoded false s t p = p
string_encoded true s t p = p

encoded_string : (is_text : Bool) (s t : List ℕ) → IsEncoding (string_item is_text s) t
    → Strings (IsAllowed is_text) (major_type is_text) s t
encoded_string false s t p = p
encoded_string true s t p = p

string_shallow : (is_text : Bool) (s : List ℕ) → depth (string_item is_text s) ≤ max_depth
string_shallow false s = omega arith
string_shallow true s = omega arith

pub string_len-is : (is_text : Bool) (h : Head) (len : Option ℕ) → string_len is_text h ≡ Some len
    → h ≡ string_head is_text len
string_len-is is_text (head.Unsigned m) len e = absurd (none_is_some len e)
string_len-is is_text (head.Negative m) len e = absurd (none_is_some len e)
string_len-is false (head.Bytes l) len e = ap head.Bytes (some_is l len e)
string_len-is true (head.Bytes l) len e = absurd (none_is_some len e)
string_len-is false (head.Text l) len e = absurd (none_is_some len e)
string_len-is true (head.Text l) len e = ap head.Text (some_is l len e)
string_len-is is_text (head.Array l) len e = absurd (none_is_some len e)
string_len-is is_text (head.Map l) len e = absurd (none_is_some len e)
string_len-is is_text (head.Tag m) len e = absurd (none_is_some len e)
string_len-is is_text (head.Simple m) len e = absurd (none_is_some len e)
string_len-is is_text (head.Float f) len e = absurd (none_is_some len e)
string_len-is is_text head.Break len e = absurd (none_is_some len e)

string_by_head : (is_text : Bool) (len : Option ℕ) (bytes : List ℕ)
    → string_by is_text (string_head is_text len) bytes ≡ string_at is_text len bytes
string_by_head false len bytes = refl
string_by_head true len bytes = refl

string_content : (is_text : Bool) (len : Option ℕ) → content_len (string_head is_text len) ≡ unwrap_or len 0
string_content false len = refl
string_content true len = refl

string_is_head : (is_text : Bool) (n : ℕ) → IsHead (string_head is_text (Some n))
string_is_head false n = tt
string_is_head true n = tt

-- ---- a string was passed

-- the bytes after a string's head
pub region_read : (is_text : Bool) (len : Option ℕ) (a b : CursorState) (region : List ℕ) → IsInside a → IsBytes (ahead a)
    → PassesOver (unwrap_or len 0) (string_at is_text len (ahead a)) a b → region ≡ take (b.place - a.place) (ahead a)
    → RegionRead is_text len a b region
region_read is_text len a b region inside fits p is =
    let t = string_takes is_text len (ahead a) p.value (ahead b) fits p.reads in
    let same : length b.bytes ≡ length a.bytes = ap length p.passed.same in
    let long : length t.text ≡ b.place - a.place =
    omega (
      arith,
      same,
      inside,
      ap length t.parts,
      length-append t.text (ahead b),
      p.passed.forward,
      p.passed.within,
      length-drop a.place a.bytes,
      length-drop b.place b.bytes,
    ) in
    let whole : region ≡ t.text =
    is ∙ ap (take (b.place - a.place)) t.parts ∙ take_at t.text (ahead b) (b.place - a.place) long in
    record {
      content = p.value;
      tells = subst (Content is_text len p.value) (sym whole) t.encoded;
      parts = t.parts ∙ ap (λ (r : List ℕ). r ++ ahead b) (sym whole);
      passed = p.passed;
      spans = p.spans;
    }

-- the length of a region's string
pub region_sized : (is_text : Bool) (len : Option ℕ) (a b : CursorState) (region : List ℕ) (size : ℕ)
    → RegionRead is_text len a b region → IsLengthOf (string_at is_text len (ahead a)) size
    → IsSized is_text (record { len = len; bytes = region }) size
region_sized is_text len a b region size r sized s c =
    sized s (ahead b) (ap (string_at is_text len) r.parts ∙ string_again is_text len s region (ahead b) c)

-- a string with its head
pub string_read : (is_text : Bool) (len : Option ℕ) (a b c : CursorState) (h : Head) (region : List ℕ) → IsInside a
    → IsBytes (ahead a) → PassesHead a b h → a.place < b.place → string_len is_text h ≡ Some len
    → RegionRead is_text len b c region
    → PassesString is_text a c (record { len = len; bytes = region })
string_read is_text len a b c h region inside fits p further is r =
    let encoded : IsEncodingOfHead (string_head is_text len) p.text =
    subst (λ (g : Head). IsEncodingOfHead g p.text) (string_len-is is_text h len is) p.encoded in
    let whole : ahead a ≡ (p.text ++ region) ++ ahead c =
    p.parts ∙ ap (λ (t : List ℕ). p.text ++ t) r.parts ∙ sym (append_assoc p.text region (ahead c)) in
    let size : length (ahead a) ≡ length p.text + length region + length (ahead c) =
    omega (arith, ap length whole, length-append (p.text ++ region) (ahead c), length-append p.text region) in
    let taken : take (length p.text + length region) (ahead a) ≡ p.text ++ region =
    ap (take (length p.text + length region)) whole
    ∙ take_at (p.text ++ region) (ahead c) (length p.text + length region) (length-append p.text region) in
    let headed : Then (LengthHeads (major_type is_text) len) (Content is_text len r.content) (p.text ++ region) =
    record {
      front = p.text;
      back = region;
      first = string_head_encodes is_text len p.text encoded;
      second = r.tells;
      whole = refl;
    } in
    let same : length c.bytes ≡ length a.bytes = ap length (r.passed.same ∙ p.bytes) in
    let place : c.place ≡ a.place + (length p.text + length region) =
    omega (arith, size, same, inside, r.passed.within, length-drop a.place a.bytes, length-drop c.place c.bytes) in
    let content : content_len h ≡ unwrap_or len 0 =
    ap content_len (string_len-is is_text h len is) ∙ string_content is_text len in
    let spans : Spans 0 a c = spans_headed a b c h (ap head_at p.parts ∙ head_again h p.text (ahead b) p.encoded) p.heads
    (spans_as (content_len h) (unwrap_or len 0) b c content r.spans) in
    let heads = heads_passed (length p.text + length region) a c fits (omega (arith, size)) spans in
    record {
      content = r.content;
      len = length p.text + length region;
      front = record {
        within = omega (arith, size);
        encoded = subst (IsEncoding (string_item is_text r.content)) (sym taken) (string_encoded is_text r.content
            (p.text ++ region) (headed_string is_text r.content (p.text ++ region) len headed));
        shallow = string_shallow is_text r.content;
      };
      headed = record { front = p.text; back = region; first = encoded; second = refl; whole = taken };
      tells = r.tells;
      place = place;
      all_heads = heads.whole;
      counted = heads.counted;
      least = omega (arith, p.heads, r.passed.rises);
      heads = omega (arith, place, further, p.place, p.heads, r.passed.heads, r.passed.forward);
      nodes = r.passed.nodes ∙ p.nodes;
      bytes = r.passed.same ∙ p.bytes;
    }

string_len_of : (is_text : Bool) (n : ℕ) → string_len is_text (string_head is_text (Some n)) ≡ Some (Some n)
string_len_of false n = refl
string_len_of true n = refl

-- a string whose head has k bytes, and whose content is the next n bytes, with one head in all
pub short_read : (is_text : Bool) (k n : ℕ) (a c : CursorState) (content : List ℕ) → IsPlaced a.bytes a.place
    → 0 < k → Headed (ahead a) k (string_head is_text (Some n)) (drop k (ahead a))
    → n ≤ length (drop (a.place + k) a.bytes) → content ≡ take n (drop (a.place + k) a.bytes)
    → is_allowed is_text content ≡ true → c ≡ record a { place = a.place + (k + n); heads = raised a.heads 1 }
    → a.heads ≤ c.heads → PassesString is_text a c (record { len = Some (length content); bytes = content })
short_read is_text k n a c content placed some headed within whole allowed to rises =
    let h : Head = string_head is_text (Some n) in
    let b : CursorState = record a { place = a.place + k; heads = raised a.heads 1 } in
    let after : drop k (ahead a) ≡ ahead b = drop-drop k a.place a.bytes in
    let heads : c.heads ≡ raised a.heads 1 = ap (λ (w : CursorState). w.heads) to in
    let place : c.place ≡ a.place + (k + n) = ap (λ (w : CursorState). w.place) to in
    let same : c.bytes ≡ a.bytes = ap (λ (w : CursorState). w.bytes) to in
    let none : c.nodes ≡ a.nodes = ap (λ (w : CursorState). w.nodes) to in
    let inside : a.place + k ≤ length a.bytes =
    omega (arith, headed.within, length-drop a.place a.bytes, placed.within) in
    let ends : a.place + (k + n) ≤ length a.bytes =
    omega (arith, within, inside, length-drop (a.place + k) a.bytes) in
    let first : HeadRead a b h = record {
      reads = headed.reads ∙ ap (λ (r : List ℕ). Some (h, r)) after;
      passed = record {
        same = refl;
        within = inside;
        forward = omega arith;
        rises = omega (arith, rises, heads);
        heads = omega (arith, some);
        nodes = refl;
      };
      counted = refl;
      further = omega (arith, some);
      well_formed = string_is_head is_text n;
    } in
    let following : drop n (ahead b) ≡ ahead c =
    drop-drop n (a.place + k) a.bytes ∙ ap (λ (i : ℕ). drop i a.bytes) (omega (arith, place))
    ∙ ap (drop c.place) (sym same) in
    let passed : Passed b c = record {
      same = same;
      within = omega (arith, place, ends, ap length same);
      forward = omega (arith, place);
      rises = omega (arith, heads);
      heads = omega (arith, place, heads);
      nodes = none;
    } in
    let size : length content ≡ n =
    omega (arith, ap length whole, length-take n (drop (a.place + k) a.bytes), within) in
    let piece : PieceRead is_text (piece_at is_text n (ahead b)) b c content = record {
      reads = piece_there is_text n (ahead b) within (subst (λ (s : List ℕ). is_allowed is_text s ≡ true) whole allowed)
          ∙ ap (λ (s : List ℕ). Some (s, drop n (ahead b))) (sym whole)
          ∙ ap (λ (r : List ℕ). Some (content, r)) following;
      passed = passed;
      uncounted = heads;
      allowed_text = allowed;
    } in
    let over : PassesOver n (string_at is_text (Some n) (ahead b)) b c = record {
      value = content;
      reads = string_piece is_text (Some n) n (ahead b) refl ∙ piece.reads;
      passed = passed;
      spans = spans_piece is_text n b c content piece;
    } in
    let fits = IsBytes-drop (a.place + k) a.bytes placed.fits in
    let region = region_read is_text (Some n) b c content inside fits over
    (whole ∙ ap (λ (m : ℕ). take m (ahead b)) (omega (arith, place))) in
    subst (λ (m : ℕ). PassesString is_text a c (record { len = Some m; bytes = content })) (sym size)
    (string_read is_text (Some n) a b c h content placed.within (IsBytes-drop a.place a.bytes placed.fits)
    (head_passed a b placed refl h first) (omega (arith, some)) (string_len_of is_text n) region)

-- ---- one text

all_three : (p q r : Bool) → (p && q && r) ≡ true → (p ≡ true) × (q ≡ true)
all_three true true r e = (refl, refl)
all_three true false r e = absurd cc
all_three false q r e = absurd cc

-- the head of a text that the bytes begin with
text_headed : (s bytes : List ℕ) → begins_text s bytes ≡ true
    → Headed bytes 1 (head.Text (Some (length s))) (drop 1 bytes)
text_headed s [] e = absurd cc
text_headed s (b ∷ rest) e =
    let both = all_three (nat_lt (length s) 24) (b == 96 + length s) (bytes_eq (take (length s) rest) s) e in
    let few : length s < 24 = ltb-true (length s) 24 both.0 in
    let first : b ≡ 96 + length s = eqb-true b (96 + length s) both.1 in
    headed_one (b ∷ rest) b rest (head.Text (Some (length s))) refl
    (string_in_initial true 96 b rest refl (omega (arith, first)) (omega (arith, first, few))
    ∙ ap (λ (n : ℕ). Some (head.Text (Some n), rest)) (omega (arith, first)))

pub text_passed : (s : List ℕ) (a c : CursorState) → IsPlaced a.bytes a.place → begins_text s (ahead a) ≡ true
    → 1 + length s ≤ length (ahead a) → take (length s) (drop 1 (ahead a)) ≡ s → is_allowed true s ≡ true
    → c ≡ record a { place = a.place + (1 + length s); heads = raised a.heads 1 } → a.heads ≤ c.heads
    → PassesString true a c (record { len = Some (length s); bytes = s })
text_passed s a c placed is within there allowed to rises =
    let after : drop 1 (ahead a) ≡ drop (a.place + 1) a.bytes = drop-drop 1 a.place a.bytes in
    short_read true 1 (length s) a c s placed (omega arith) (text_headed s (ahead a) is)
    (omega (arith, within, ap length after, length-drop 1 (ahead a)))
    (sym there ∙ ap (take (length s)) after) allowed to rises

-- ---- no string was passed

-- the next head isn't that of a string of this kind, and one head was decoded
pub no_string_head : (is_text : Bool) (a b : CursorState) → NoHead (start (string_by is_text) (ahead a)) a b
    → string_decoded is_text (ahead a) ≡ 1 → b.heads ≡ raised a.heads 1 → NoStringRead is_text a b
no_string_head is_text a b n alone one = record {
  no_string = n;
  decoded = one ∙ ap (raised a.heads) (sym alone);
  least = omega (arith, one);
  one = λ x rest e. one;
}

-- no head
pub no_head_read : (is_text : Bool) (a b : CursorState) → NoHead (head_at (ahead a)) a b → b.heads ≡ raised a.heads 1
    → NoStringRead is_text a b
no_head_read is_text a b n one = no_string_head is_text a b
    (record { reads = bind_none (head_at (ahead a)) (λ h. string_by is_text h.0 h.1) n.reads; stopped = n.stopped })
    (ap (begun_heads (string_tally is_text)) n.reads) one

-- the head of something else
pub other_head_read : (is_text : Bool) (a b : CursorState) (h : Head) → HeadRead a b h → string_len is_text h ≡ None
    → Stopped a b → NoStringRead is_text a b
other_head_read is_text a b h r other stopped = no_string_head is_text a b
    (record {
      reads = bind_at (head_at (ahead a)) (h, ahead b) (λ h. string_by is_text h.0 h.1) r.reads
          ∙ ap (λ (len : Option (Option ℕ)). len >>= λ n. string_at is_text n (ahead b)) other;
      stopped = stopped;
    })
    (started (string_tally is_text) (ahead a) (ahead b) h r.reads
    ∙ ap (λ (len : Option (Option ℕ)). suc (rest_heads is_text len (ahead b))) other) r.counted

-- the head is a string's, but the string isn't well-formed: so there is no leading data item
pub string_cut : (is_text : Bool) (len : Option ℕ) (a b c : CursorState) (h : Head) → HeadRead a b h
    → string_len is_text h ≡ Some len → NoHead (string_at is_text len (ahead b)) b c
    → c.heads ≡ raised b.heads (string_heads is_text len (ahead b)) → NoStringRead is_text a c
string_cut is_text len a b c h r is n counted =
    let head_is : h ≡ string_head is_text len = string_len-is is_text h len is in
    let no_item : start (item_within max_depth) (ahead a) ≡ None = bind_at (head_at (ahead a)) (h, ahead b)
    (λ h. item_within max_depth h.0 h.1) r.reads ∙ by_string max_depth is_text len h (ahead b) head_is
    ∙ bind_none (string_at is_text len (ahead b)) (λ s. Some (string_item is_text s.0, s.1)) n.reads in
    let more : string_decoded is_text (ahead a) ≡ suc (string_heads is_text len (ahead b)) =
    started (string_tally is_text) (ahead a) (ahead b) h r.reads
    ∙ ap (λ (l : Option (Option ℕ)). suc (rest_heads is_text l (ahead b))) is in
    record {
      no_string = record {
        reads = bind_at (head_at (ahead a)) (h, ahead b) (λ h. string_by is_text h.0 h.1) r.reads ∙ ap
            (λ (g : Head). string_by is_text g (ahead b)) head_is ∙ string_by_head is_text len (ahead b) ∙ n.reads;
        stopped = stopped_then a b c r.passed n.stopped;
      };
      decoded = decoded_then a b c 1 (string_heads is_text len (ahead b)) _ r.counted counted
          (more ∙ omega arith);
      least = omega (arith, r.counted, n.stopped.rises);
      one = λ x rest e. absurd (none_is_some (x, rest) (sym no_item ∙ e));
    }

string_again_headed : (is_text : Bool) (bytes s : List ℕ) (k : ℕ) → IsLeadingItem bytes (string_item is_text s) k
    → start (string_by is_text) bytes ≡ Some (s, drop k bytes)
string_again_headed is_text bytes s k f =
    let h = string_headed is_text s (take k bytes) (encoded_string is_text s (take k bytes) f.encoded) in
    let p = h.parts in
    ap (start (string_by is_text)) (sym (take-append-drop k bytes))
    ∙ starts (string_by is_text) (string_head is_text h.len) p.front p.back (take k bytes) (drop k bytes)
    (encodes_string_head is_text h.len p.front p.first) p.whole
    ∙ string_by_head is_text h.len (p.back ++ drop k bytes)
    ∙ string_again is_text h.len s p.back (drop k bytes) p.second

pub string_missed : {T : Type 0} (region : T → Region) (is_text : Bool) (a b : CursorState) (place : ℕ) (found : Option T)
    → is_some found ≡ false → place ≡ a.place → ReadsString is_text a b (option_map region found)
    → LendsString is_text a (record b { place = place }) (option_map region found)
string_missed region is_text a b place (Some r) none back n = absurd cc
string_missed region is_text a b place None none back n = record {
  none = λ s k f. none_is_some (s, drop k (ahead a))
      (sym n.no_string.reads ∙ string_again_headed is_text (ahead a) s k f);
  place = back;
  one = λ x k f. n.one x (drop k (ahead a)) (front_again (ahead a) x k f);
  decoded = n.decoded;
  least = n.least;
  heads = n.no_string.stopped.heads;
  nodes = n.no_string.stopped.nodes;
  bytes = n.no_string.stopped.same;
}

pub string_found : {T : Type 0} (region : T → Region) (is_text : Bool) (a b : CursorState) (found : Option T)
    → is_some found ≡ true → ReadsString is_text a b (option_map region found)
    → LendsString is_text a b (option_map region found)
string_found region is_text a b (Some r) some p = p
string_found region is_text a b None some p = absurd cc

-- ---- by the data item that is encoded at the cursor

pub lends : (is_text : Bool) (a b : CursorState) (found : Option Region) → LendsString is_text a b found
    → LendsEncoded is_text a b found
lends is_text a b (Some r) p x to l =
    let same = only_one x (string_item is_text p.content) a.bytes a.place to p.len l p.front in (
      p.content,
      (
        sym same.0,
        record {
          tells = p.tells;
          place = omega (arith, p.place, same.1, l.forward);
          counted = p.counted ∙ ap (λ (n : ℕ). raised a.heads (heads_of (take n (ahead a)))) same.1;
          least = p.least;
          heads = omega (arith, p.heads, same.1, l.forward);
          nodes = p.nodes;
          bytes = p.bytes;
        },
      ),
    )
lends is_text a b None n x to l = (
  λ s is. n.none s (to - a.place) (subst (λ (y : Item). IsLeadingItem (ahead a) y (to - a.place)) is
      (stands_front x a.bytes a.place to l)),
  record {
    place = n.place;
    heads = n.one x (to - a.place) (stands_front x a.bytes a.place to l);
    nodes = n.nodes;
    bytes = n.bytes;
  },
)
