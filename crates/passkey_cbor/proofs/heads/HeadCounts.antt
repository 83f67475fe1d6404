-- How many heads bytes have, and that a cursor counts them.
use Rattle.std.proofs.Common.{◌≡◌, ◌⊎◌, ℕ, zero, suc, ◌+◌, ◌<◌, ◌≤◌, Bool, true, false, cond, List, [], ◌∷◌, ◌++◌, length, take, drop, Option, Some, None, refl, sym, ap, subst, ◌∙◌, append_assoc, arith, inl, inr}
use Rattle.std.specs.Prelude.{unwrap_or}
use Rattle.std.proofs.lemmas.Bool.{cases_lt, lt-ltb, le-ltb}
use Rattle.std.proofs.lemmas.List.{length-append, length-take, take-append-drop, take_at, drop_at}
use Rattle.passkey_cbor.specs.Bytes.{IsBytes}
use Rattle.passkey_cbor.specs.HeadReading.{◌>>=◌, head_at}
use Rattle.passkey_cbor.specs.HeadCount.{content_len, WithContent, AreHeads, one_more_head, heads_by, heads_of, CountsHeads, after_content, after_heads, Spans}
use Rattle.passkey_cbor.specs.Languages.{Each}
use Rattle.passkey_cbor.specs.Reading.{is_break, end, element, step_at, is_allowed, piece_at, chunk_len, chunk}
use Rattle.passkey_cbor.specs.Steps.{HeadRead, ElementRead, EndRead, PieceRead}
use Rattle.passkey_cbor.specs.CursorState.{CursorState, ahead, raised}
use Rattle.passkey_cbor.specs.declared.head.Head.{Head}
use Rattle.passkey_cbor.specs.declared.head.Head.TheVariants as head
use Rattle.passkey_cbor.proofs.items.Binds.{some_is, none_is_some, bind_some, bind_at}
use Rattle.passkey_cbor.proofs.heads.HeadAgain.{head_again}
use Rattle.passkey_cbor.proofs.heads.HeadTakes.{head_takes}
use Rattle.passkey_cbor.proofs.items.Lists.{head_long}
use Rattle.passkey_cbor.proofs.heads.Numbers.{IsBytes-drop}
use Rattle.passkey_cbor.proofs.heads.Raised.{raised-raised}

-- ---- heads by the bytes ahead

pub content_there : (n : ℕ) (bytes : List ℕ) → n ≤ length bytes → after_content n bytes ≡ Some (drop n bytes)
content_there n bytes le = rw (le-ltb (length bytes) n le) refl

no_content : (bytes : List ℕ) → after_content 0 bytes ≡ Some bytes
no_content bytes = content_there 0 bytes (omega arith)

content_taken : (n : ℕ) (bytes rest : List ℕ) → after_content n bytes ≡ Some rest
    → (n ≤ length bytes) × (drop n bytes ≡ rest)
content_taken n bytes rest e = by_test (cases_lt (length bytes) n) where
  by_test : (length bytes < n) ⊎ (n ≤ length bytes) → (n ≤ length bytes) × (drop n bytes ≡ rest)
  by_test (inl lt) = absurd (none_is_some rest (rw (lt-ltb (length bytes) n lt) at e))
  by_test (inr le) = (le, some_is (drop n bytes) rest (sym (content_there n bytes le) ∙ e))

no_heads : (bytes : List ℕ) → after_heads 0 bytes ≡ Some bytes
unfolding after_heads
no_heads bytes = refl

one_then : (n : ℕ) (bytes : List ℕ) → after_heads (suc n) bytes
    ≡ (head_at bytes >>= λ h. after_content (content_len h.0) h.1 >>= after_heads n)
unfolding after_heads
one_then n bytes = refl

-- a head, and then others after its content
head_then : (n : ℕ) (bytes rest following : List ℕ) (h : Head) → head_at bytes ≡ Some (h, rest)
    → (after_content (content_len h) rest >>= after_heads n) ≡ Some following → after_heads (suc n) bytes ≡ Some following
head_then n bytes rest following h e f =
    one_then n bytes
    ∙ bind_at (head_at bytes) (h, rest) (λ h. after_content (content_len h.0) h.1 >>= after_heads n) e ∙ f

pub one_head : (bytes rest following : List ℕ) (h : Head) → head_at bytes ≡ Some (h, rest)
    → after_content (content_len h) rest ≡ Some following → after_heads 1 bytes ≡ Some following
one_head bytes rest following h e f = head_then 0 bytes rest following h e
    (bind_at (after_content (content_len h) rest) following (after_heads 0) f ∙ no_heads following)

pub heads_then : (n m : ℕ) (x y z : List ℕ) → after_heads n x ≡ Some y → after_heads m y ≡ Some z
    → after_heads (n + m) x ≡ Some z
heads_then zero m x y z e f =
    let sum : 0 + m ≡ m = omega arith in
    ap (λ (k : ℕ). after_heads k x) sum ∙ ap (after_heads m) (some_is x y (sym (no_heads x) ∙ e)) ∙ f
heads_then (suc n) m x y z e f =
    let sum : suc n + m ≡ suc (n + m) = omega arith in
    let h = bind_some (head_at x) (λ h. after_content (content_len h.0) h.1 >>= after_heads n) (y)
    (sym (one_then n x) ∙ e) in
    let c = bind_some (after_content (content_len h.0.0) h.0.1) (after_heads n) y h.2 in
    ap (λ (k : ℕ). after_heads k x) sum ∙ head_then (n + m) x h.0.1 z h.0.0 h.1
    (bind_at (after_content (content_len h.0.0) h.0.1) c.0 (after_heads (n + m)) c.1
    ∙ heads_then n m c.0 y z c.2 f)

-- ---- what a cursor passed

pub spans_none : (a : CursorState) → Spans 0 a a
spans_none a = record {
  number = 0;
  reads = bind_at (after_content 0 (ahead a)) (ahead a) (after_heads 0) (no_content (ahead a))
      ∙ no_heads (ahead a);
  counted = refl;
}

-- from a head on, the content is passed
spanned : (a b : CursorState) (s : Spans 0 a b) → after_heads s.number (ahead a) ≡ Some (ahead b)
spanned a b s = sym (bind_at (after_content 0 (ahead a)) (ahead a) (after_heads s.number) (no_content (ahead a)))
    ∙ s.reads

pub spans_then : (k : ℕ) (a b c : CursorState) → Spans k a b → Spans 0 b c → Spans k a c
spans_then k a b c s t =
    let first = bind_some (after_content k (ahead a)) (after_heads s.number) (ahead b) s.reads in
    record {
      number = s.number + t.number;
      reads = bind_at (after_content k (ahead a)) first.0 (after_heads (s.number + t.number)) first.1
          ∙ heads_then s.number t.number first.0 (ahead b) (ahead c) first.2 (spanned b c t);
      counted = t.counted ∙ ap (λ (n : ℕ). raised n t.number) s.counted
          ∙ raised-raised a.heads s.number t.number;
    }

-- a head, its content, and heads after it
pub spans_headed : (a b c : CursorState) (h : Head) → head_at (ahead a) ≡ Some (h, ahead b) → b.heads ≡ raised a.heads 1
    → Spans (content_len h) b c → Spans 0 a c
spans_headed a b c h reads one s = record {
  number = suc s.number;
  reads = bind_at (after_content 0 (ahead a)) (ahead a) (after_heads (suc s.number)) (no_content (ahead a))
      ∙ head_then s.number (ahead a) (ahead b) (ahead c) h reads s.reads;
  counted =
      let sum : 1 + s.number ≡ suc s.number = omega arith in
      s.counted ∙ ap (λ (n : ℕ). raised n s.number) one ∙ raised-raised a.heads 1 s.number
      ∙ ap (raised a.heads) sum;
}

pub spans_head : (a b c : CursorState) (h : Head) → HeadRead a b h → Spans (content_len h) b c → Spans 0 a c
spans_head a b c h r s = spans_headed a b c h r.reads r.counted s

pub one_spans : (a b : CursorState) → after_heads 1 (ahead a) ≡ Some (ahead b) → b.heads ≡ raised a.heads 1 → Spans 0 a b
one_spans a b e one = record {
  number = 1;
  reads = bind_at (after_content 0 (ahead a)) (ahead a) (after_heads 1) (no_content (ahead a)) ∙ e;
  counted = one;
}

-- no content, and nothing after it
pub spans_flat : (k : ℕ) (a : CursorState) → k ≡ 0 → Spans k a a
spans_flat k a none = subst (λ (n : ℕ). Spans n a a) (sym none) (spans_none a)

pub spans_as : (k n : ℕ) (a b : CursorState) → k ≡ n → Spans n a b → Spans k a b
spans_as k n a b same s = subst (λ (m : ℕ). Spans m a b) (sym same) s

-- ---- pieces of strings

piece_content : (is_text : Bool) (n : ℕ) (bytes s rest : List ℕ) → piece_at is_text n bytes ≡ Some (s, rest)
    → after_content n bytes ≡ Some rest
unfolding piece_at
piece_content is_text n bytes s rest e = by_test (cases_lt (length bytes) n) where
  checked : (b : Bool) → cond b (let t : List ℕ × List ℕ = (take n bytes, drop n bytes) in Some t) None ≡ Some (s, rest)
      → drop n bytes ≡ rest
  checked true f = ap (λ (q : List ℕ × List ℕ). q.1) (some_is (take n bytes, drop n bytes) (s, rest) f)
  checked false f = absurd (none_is_some (s, rest) f)

  by_test : (length bytes < n) ⊎ (n ≤ length bytes) → after_content n bytes ≡ Some rest
  by_test (inl lt) = absurd (none_is_some (s, rest) (rw (lt-ltb (length bytes) n lt) at e))
  by_test (inr le) =
      content_there n bytes le ∙ ap Some (checked (is_allowed is_text (take n bytes)) (rw (le-ltb (length bytes) n le) at e))

content_spans : (k : ℕ) (a b : CursorState) → after_content k (ahead a) ≡ Some (ahead b) → b.heads ≡ a.heads → Spans k a b
content_spans k a b e same = record {
  number = 0;
  reads = bind_at (after_content k (ahead a)) (ahead b) (after_heads 0) e ∙ no_heads (ahead b);
  counted = same;
}

pub spans_piece : (is_text : Bool) (n : ℕ) (a b : CursorState) (s : List ℕ)
    → PieceRead is_text (piece_at is_text n (ahead a)) a b s → Spans n a b
spans_piece is_text n a b s p = content_spans n a b (piece_content is_text n (ahead a) s (ahead b) p.reads) p.uncounted

chunk_content : (is_text : Bool) (h : Head) (n : ℕ) → chunk_len is_text h ≡ Some n → content_len h ≡ n
chunk_content false (head.Bytes len) n e = ap (λ (l : Option ℕ). unwrap_or l 0) e
chunk_content true (head.Text len) n e = ap (λ (l : Option ℕ). unwrap_or l 0) e
chunk_content true (head.Bytes len) n e = absurd (none_is_some n e)
chunk_content false (head.Text len) n e = absurd (none_is_some n e)
chunk_content is_text (head.Unsigned m) n e = absurd (none_is_some n e)
chunk_content is_text (head.Negative m) n e = absurd (none_is_some n e)
chunk_content is_text (head.Array len) n e = absurd (none_is_some n e)
chunk_content is_text (head.Map len) n e = absurd (none_is_some n e)
chunk_content is_text (head.Tag m) n e = absurd (none_is_some n e)
chunk_content is_text (head.Simple m) n e = absurd (none_is_some n e)
chunk_content is_text (head.Float f) n e = absurd (none_is_some n e)
chunk_content is_text head.Break n e = absurd (none_is_some n e)

pub spans_chunk : (is_text : Bool) (h : Head) (a b : CursorState) (s : List ℕ)
    → PieceRead is_text (chunk is_text h (ahead a)) a b s → Spans (content_len h) a b
spans_chunk is_text h a b s p =
    let n = bind_some (chunk_len is_text h) (λ n. piece_at is_text n (ahead a)) (s, ahead b) p.reads in
    spans_as (content_len h) n.0 a b (chunk_content is_text h n.0 n.1)
    (content_spans n.0 a b (piece_content is_text n.0 (ahead a) s (ahead b) n.2) p.uncounted)

-- ---- the steps of a list

same_element : (l m : Option ℕ) (g h : Head) (r s : List ℕ) → Some (element l g r) ≡ Some (element m h s)
    → (let p : Head × List ℕ = (g, r) in p) ≡ (h, s)
same_element l m g h r s e = cc

same_end : (r s : List ℕ) → Some (end r) ≡ Some (end s) → r ≡ s
same_end r s e = cc

no_element : (m : Option ℕ) (h : Head) (r s : List ℕ) → Some (end r) ≡ Some (element m h s) → ⊥
no_element m h r s e = cc

no_end : (l : Option ℕ) (g : Head) (r s : List ℕ) → Some (element l g r) ≡ Some (end s) → ⊥
no_end l g r s e = cc

break_is : (h : Head) → is_break h ≡ true → h ≡ head.Break
break_is head.Break e = refl
break_is (head.Unsigned n) e = absurd cc
break_is (head.Negative n) e = absurd cc
break_is (head.Bytes len) e = absurd cc
break_is (head.Text len) e = absurd cc
break_is (head.Array len) e = absurd cc
break_is (head.Map len) e = absurd cc
break_is (head.Tag n) e = absurd cc
break_is (head.Simple n) e = absurd cc
break_is (head.Float f) e = absurd cc

pub element_head : (left after : Option ℕ) (bytes : List ℕ) (h : Head) (rest : List ℕ)
    → step_at left bytes ≡ Some (element after h rest) → head_at bytes ≡ Some (h, rest)
unfolding step_at
element_head (Some zero) after bytes h rest e = absurd (no_element after h bytes rest e)
element_head (Some (suc n)) after bytes h rest e =
    let q = bind_some (head_at bytes) (λ h. Some (element (Some n) h.0 h.1)) (element after h rest) e in
    q.1 ∙ ap (λ (p : Head × List ℕ). Some p) (same_element (Some n) after q.0.0 h q.0.1 rest q.2)
element_head None after bytes h rest e =
    let q = bind_some (head_at bytes) (λ h. cond (is_break h.0) (Some (end h.1)) (Some (element None h.0 h.1)))
    (element after h rest) e in
    q.1 ∙ ap (λ (p : Head × List ℕ). Some p) (by_break (is_break q.0.0) q.0.0 q.0.1 q.2) where
      by_break : (b : Bool) (g : Head) (r : List ℕ)
          → cond b (Some (end r)) (Some (element None g r)) ≡ Some (element after h rest)
          → (let p : Head × List ℕ = (g, r) in p) ≡ (h, rest)
      by_break true g r f = absurd (no_element after h r rest f)
      by_break false g r f = same_element None after g h r rest f

pub spans_element : (left after : Option ℕ) (a b c : CursorState) (h : Head) → ElementRead left after a b h
    → Spans (content_len h) b c → Spans 0 a c
spans_element left after a b c h r s =
    spans_headed a b c h (element_head left after (ahead a) h (ahead b) r.reads) r.counted s

break_head : (bytes rest : List ℕ) → step_at None bytes ≡ Some (end rest) → head_at bytes ≡ Some (head.Break, rest)
unfolding step_at
break_head bytes rest e =
    let q = bind_some (head_at bytes) (λ h. cond (is_break h.0) (Some (end h.1)) (Some (element None h.0 h.1)))
    (end rest) e in
    q.1 ∙ by_break (is_break q.0.0) q.0.0 q.0.1 refl q.2 where
      by_break : (b : Bool) (g : Head) (r : List ℕ) → is_break g ≡ b
          → cond b (Some (end r)) (Some (element None g r)) ≡ Some (end rest)
          → Some (let p : Head × List ℕ = (g, r) in p) ≡ Some (let p : Head × List ℕ = (head.Break, rest) in p)
      by_break true g r is f =
          let h = break_is g is in
          let s = same_end r rest f in
          cc
      by_break false g r is f = absurd (no_end None g r rest f)

no_more : (bytes rest : List ℕ) → step_at (Some 0) bytes ≡ Some (end rest) → bytes ≡ rest
unfolding step_at
no_more bytes rest e = same_end bytes rest e

some_more : (n : ℕ) (bytes rest : List ℕ) → step_at (Some (suc n)) bytes ≡ Some (end rest) → ⊥
unfolding step_at
some_more n bytes rest e =
    let q = bind_some (head_at bytes) (λ h. Some (element (Some n) h.0 h.1)) (end rest) e in
    no_end (Some n) q.0.0 q.0.1 rest q.2

pub spans_end : (left : Option ℕ) (a b : CursorState) → EndRead left a b → Spans 0 a b
spans_end (Some zero) a b r =
    content_spans 0 a b (no_content (ahead a) ∙ ap Some (no_more (ahead a) (ahead b) r.reads)) r.counted
spans_end (Some (suc n)) a b r = absurd (some_more n (ahead a) (ahead b) r.reads)
spans_end None a b r = spans_headed a b b head.Break (break_head (ahead a) (ahead b) r.reads) r.counted (spans_none b)

-- ---- heads as encodings

-- the heads that were decoded, and the bytes that encode them
pub record HeadsTaken (n : ℕ) (bytes rest : List ℕ) : Type 0 where
  pub text : List ℕ
  pub heads : AreHeads n text
  pub parts : bytes ≡ text ++ rest

pub heads_taken : (n : ℕ) (bytes rest : List ℕ) → IsBytes bytes → after_heads n bytes ≡ Some rest
    → HeadsTaken n bytes rest
heads_taken zero bytes rest fits e = record {
  text = [];
  heads = record { heads = []; number = refl; encoded = refl };
  parts = some_is bytes rest (sym (no_heads bytes) ∙ e);
}
heads_taken (suc n) bytes rest fits e =
    let h = bind_some (head_at bytes) (λ h. after_content (content_len h.0) h.1 >>= after_heads n) rest
    (sym (one_then n bytes) ∙ e) in
    let c = bind_some (after_content (content_len h.0.0) h.0.1) (after_heads n) rest h.2 in
    let t = head_takes bytes h.0.0 h.0.1 fits h.1 in
    let k = content_len h.0.0 in
    let taken = content_taken k h.0.1 c.0 c.1 in
    let others = heads_taken n c.0 rest (subst IsBytes taken.1 (IsBytes-drop k h.0.1 t.rest_fits)) c.2 in
    let content = take k h.0.1 in
    let following : h.0.1 ≡ content ++ c.0 =
    sym (take-append-drop k h.0.1) ∙ ap (λ (r : List ℕ). content ++ r) taken.1 in
    record {
      text = (t.text ++ content) ++ others.text;
      heads = record {
        heads = h.0.0 ∷ others.heads.heads;
        number = ap suc others.heads.number;
        encoded = record {
          front = t.text ++ content;
          back = others.text;
          first = record {
            front = t.text;
            back = content;
            first = t.encoded;
            second = omega (arith, length-take k h.0.1, taken.0);
            whole = refl;
          };
          second = others.heads.encoded;
          whole = refl;
        };
      };
      parts = t.parts ∙ ap (λ (r : List ℕ). t.text ++ r) following
          ∙ ap (λ (r : List ℕ). t.text ++ (content ++ r)) others.parts
          ∙ sym (append_assoc t.text content (others.text ++ rest))
          ∙ sym (append_assoc (t.text ++ content) others.text rest);
    }

-- what a cursor passed from a head on
pub spans_count : (a b : CursorState) → IsBytes (ahead a) → Spans 0 a b → CountsHeads a b
spans_count a b fits s =
    let t = heads_taken s.number (ahead a) (ahead b) fits (spanned a b s) in
    record {
      number = s.number;
      text = t.text;
      heads = t.heads;
      parts = t.parts;
      counted = omega (arith, s.counted);
    }

-- ---- the number of heads is a function of the bytes

headed_long : (h : Head) (t : List ℕ) → WithContent h t → 0 < length t
headed_long h t w =
    let long = head_long (w.front ++ []) h [] (head_again h w.front [] w.first) in
    omega (arith, long, length-append w.front [], ap length w.whole, length-append w.front w.back)

no_head : (t : List ℕ) → t ≡ [] → head_at t ≡ None
unfolding head_at
no_head t none = ap head_at none

counted_by : (fuel : ℕ) (heads : List Head) (t : List ℕ) → length t ≤ fuel → Each WithContent heads t
    → heads_by fuel t ≡ length heads
unfolding heads_by
counted_by zero [] t few e = refl
counted_by (suc fuel) [] t few e = ap (one_more_head (heads_by fuel)) (no_head t e)
counted_by zero (h ∷ heads) t few e =
    absurd (omega (arith, few, headed_long h e.front e.first, ap length e.whole, length-append e.front e.back))
counted_by (suc fuel) (h ∷ heads) t few e =
    let w = e.first in
    let parts : t ≡ w.front ++ (w.back ++ e.back) =
    e.whole ∙ ap (λ (s : List ℕ). s ++ e.back) w.whole ∙ append_assoc w.front w.back e.back in
    let first : head_at t ≡ Some (h, w.back ++ e.back) =
    ap head_at parts ∙ head_again h w.front (w.back ++ e.back) w.first in
    let shorter : length e.back ≤ fuel =
    omega (arith, few, headed_long h e.front w, ap length e.whole, length-append e.front e.back) in
    ap (one_more_head (heads_by fuel)) first
    ∙ ap (λ (s : List ℕ). suc (heads_by fuel s)) (drop_at w.back e.back (content_len h) w.second)
    ∙ ap suc (counted_by fuel heads e.back shorter e.second)

pub heads_are : (n : ℕ) (t : List ℕ) → AreHeads n t → heads_of t ≡ n
unfolding heads_of
heads_are n t h = counted_by (length t) h.heads t (omega arith) h.encoded ∙ h.number

each_then : (xs ys : List Head) (s t : List ℕ) → Each WithContent xs s → Each WithContent ys t
    → Each WithContent (xs ++ ys) (s ++ t)
each_then [] ys s t e f = rw e f
each_then (x ∷ xs) ys s t e f = record {
  front = e.front;
  back = e.back ++ t;
  first = e.first;
  second = each_then xs ys e.back t e.second f;
  whole = ap (λ (r : List ℕ). r ++ t) e.whole ∙ append_assoc e.front e.back t;
}

-- heads, and others after them
pub are_heads_then : (n m : ℕ) (s t : List ℕ) → AreHeads n s → AreHeads m t → AreHeads (n + m) (s ++ t)
are_heads_then n m s t a b = record {
  heads = a.heads ++ b.heads;
  number = omega (arith, length-append a.heads b.heads, a.number, b.number);
  encoded = each_then a.heads b.heads s t a.encoded b.encoded;
}

-- ---- the heads from one offset to another

-- What a cursor passed is whole heads, and it counted each of them.
pub record HeadsPassed (len : ℕ) (old new : CursorState) : Type 0 where
  pub whole : AreHeads (heads_of (take len (ahead old))) (take len (ahead old))
  pub counted : new.heads ≡ raised old.heads (heads_of (take len (ahead old)))

pub heads_passed : (len : ℕ) (a b : CursorState) → IsBytes (ahead a) → len + length (ahead b) ≡ length (ahead a) → Spans 0 a b
    → HeadsPassed len a b
heads_passed len a b fits size s =
    let t = heads_taken s.number (ahead a) (ahead b) fits (spanned a b s) in
    let long : length t.text ≡ len = omega (arith, size, ap length t.parts, length-append t.text (ahead b)) in
    let taken : take len (ahead a) ≡ t.text = ap (take len) t.parts ∙ take_at t.text (ahead b) len long in
    let number : heads_of (take len (ahead a)) ≡ s.number = ap heads_of taken ∙ heads_are s.number t.text t.heads in
    record {
      whole = subst (λ (n : ℕ). AreHeads n (take len (ahead a))) (sym number)
          (subst (AreHeads s.number) (sym taken) t.heads);
      counted = s.counted ∙ ap (raised a.heads) (sym number);
    }
