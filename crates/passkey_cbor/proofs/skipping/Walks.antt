-- Moving forward in bytes.
use Rattle.std.proofs.Common.{◌≡◌, ℕ, suc, ◌+◌, ◌-◌, ◌<◌, ◌≤◌, Bool, true, false, cond, List, [], ◌++◌, length, take, drop, Option, Some, None, refl, sym, ap, ◌∙◌, arith, inl, inr}
use Rattle.std.specs.Prelude.{IfNone}
use Rattle.std.proofs.lemmas.List.{length-append, length-drop, drop-drop, drop_at, take_rest}
use Rattle.passkey_cbor.specs.HeadReading.{◌>>=◌, head_at}
use Rattle.passkey_cbor.specs.Reading.{end, element, step_at, is_break, is_allowed, piece_at}
use Rattle.passkey_cbor.specs.CursorState.{CursorState, ahead, raised, break_heads, IsInside, IsPlaced}
use Rattle.passkey_cbor.specs.Found.{PassesHead, FindsNoHead, FindsHead}
use Rattle.passkey_cbor.specs.Steps.{IsHead, ReadsHead, HeadRead, NoHead, ElementRead, EndRead, PieceRead}
use Rattle.passkey_cbor.specs.HeadEncoding.{IsEncodingOfHead}
use Rattle.passkey_cbor.specs.declared.head.Head.{Head}
use Rattle.passkey_cbor.specs.declared.head.Head.TheVariants as head
use Rattle.passkey_cbor.proofs.items.Binds.{none_is_some, bind_at, bind_none}
use Rattle.passkey_cbor.proofs.heads.Numbers.{IsBytes-drop}
use Rattle.passkey_cbor.proofs.heads.HeadAgain.{head_again}
use Rattle.passkey_cbor.proofs.heads.HeadTakes.{head_takes}
use Rattle.passkey_cbor.proofs.items.Lists.{head_long}
use Rattle.passkey_cbor.proofs.strings.Strings.{is_allowed-is, piece_takes}

abbrev pub walk : List ℕ → ℕ → ℕ → ℕ → CursorState
walk bytes place heads nodes = record { bytes = bytes; place = place; heads = heads; nodes = nodes }

-- ---- what is left of the bytes is a suffix of them

pub record IsAfter (bytes : List ℕ) (place : ℕ) (t u : List ℕ) : Type 0 where
  pub place_is : length bytes - length u ≡ place + length t
  pub rest_is : drop (length bytes - length u) bytes ≡ u
  pub shorter : length u ≤ length bytes

pub is_after : (bytes : List ℕ) (place : ℕ) (t u : List ℕ) → place ≤ length bytes → drop place bytes ≡ t ++ u
    → IsAfter bytes place t u
is_after bytes place t u within e =
    let long : length bytes - place ≡ length t + length u =
    sym (length-drop place bytes) ∙ ap length e ∙ length-append t u in
    let at : length bytes - length u ≡ place + length t = omega arith in
    record {
      place_is = at;
      rest_is = ap (λ (n : ℕ). drop n bytes) at ∙ sym (drop-drop (length t) place bytes) ∙ ap (drop (length t)) e
          ∙ drop_at t u (length t) refl;
      shorter = omega arith;
    }

-- ---- one head

encoded_head : (h : Head) (t : List ℕ) → IsEncodingOfHead h t → IsHead h
encoded_head (head.Unsigned n) t s = tt
encoded_head (head.Negative n) t s = tt
encoded_head (head.Bytes len) t s = tt
encoded_head (head.Text len) t s = tt
encoded_head (head.Array len) t s = tt
encoded_head (head.Map len) t s = tt
encoded_head (head.Tag n) t s = tt
encoded_head (head.Simple n) t (inl s) = inl s.0
encoded_head (head.Simple n) t (inr s) = inr s.0.0
encoded_head (head.Float f) t s = tt
encoded_head head.Break t s = tt

pub record HeadTaken (bytes : List ℕ) (place : ℕ) (h : Head) (u : List ℕ) : Type 0 where
  pub reads : head_at (drop place bytes) ≡ Some (h, drop (length bytes - length u) bytes)
  pub further : place < length bytes - length u
  pub well_formed : IsHead h
  pub shorter : length u ≤ length bytes

-- what is left after a head is a shorter suffix of the bytes
pub head_taken : (bytes : List ℕ) (place : ℕ) (h : Head) (u : List ℕ) → IsPlaced bytes place
    → (let read : Head × List ℕ = (h, u) in Some read) ≡ head_at (take (length bytes - place) (drop place bytes))
    → HeadTaken bytes place h u
head_taken bytes place h u placed e =
    let reads : head_at (drop place bytes) ≡ Some (h, u) = sym (e ∙ ap head_at (take_rest bytes place)) in
    let t = head_takes (drop place bytes) h u (IsBytes-drop place bytes placed.fits) reads in
    let b = is_after bytes place t.text u placed.within t.parts in
    let long : 0 < length t.text =
    omega (arith, head_long (t.text ++ []) h [] (head_again h t.text [] t.encoded), length-append t.text []) in
    record {
      reads = reads ∙ ap (λ (r : List ℕ). Some (h, r)) (sym b.rest_is);
      further = omega (arith, b.place_is, long);
      well_formed = encoded_head h t.text t.encoded;
      shorter = b.shorter;
    }

pub head_read : (bytes : List ℕ) (place heads counted nodes : ℕ) (h : Head) (u : List ℕ) → heads ≤ counted
    → counted ≡ raised heads 1 → HeadTaken bytes place h u
    → HeadRead (walk bytes place heads nodes) (walk bytes (length bytes - length u) counted nodes) h
head_read bytes place heads counted nodes h u rises one t = record {
  reads = t.reads;
  passed = record {
    same = refl;
    within = omega arith;
    forward = omega (arith, t.further);
    rises = rises;
    heads = omega (arith, one, t.further);
    nodes = refl;
  };
  counted = one;
  further = t.further;
  well_formed = t.well_formed;
}

-- a head of one byte
pub short_read : (a b : CursorState) (h : Head) → IsPlaced a.bytes a.place → a.place < length a.bytes
    → head_at (ahead a) ≡ Some (h, drop (a.place + 1) a.bytes)
    → b ≡ record a { place = a.place + 1; heads = raised a.heads 1 } → a.heads ≤ b.heads → HeadRead a b h
short_read a b h placed inside e is rises =
    let place : b.place ≡ a.place + 1 = ap (λ (w : CursorState). w.place) is in
    let heads : b.heads ≡ raised a.heads 1 = ap (λ (w : CursorState). w.heads) is in
    let same : b.bytes ≡ a.bytes = ap (λ (w : CursorState). w.bytes) is in
    let t = head_takes (ahead a) h (drop (a.place + 1) a.bytes) (IsBytes-drop a.place a.bytes placed.fits) e in
    record {
      reads = e ∙ ap (λ (n : ℕ). Some (h, drop n a.bytes)) (sym place)
          ∙ ap (λ (bytes : List ℕ). Some (h, drop b.place bytes)) (sym same);
      passed = record {
        same = same;
        within = omega (arith, place, inside, ap length same);
        forward = omega (arith, place);
        rises = rises;
        heads = omega (arith, place, heads);
        nodes = ap (λ (w : CursorState). w.nodes) is;
      };
      counted = heads;
      further = omega (arith, place);
      well_formed = encoded_head h t.text t.encoded;
    }

-- ---- one step of a list

pub step_end : (w : CursorState) (left : Option ℕ) (n : ℕ) → IsInside w → left ≡ Some n → n ≡ 0 → EndRead left w w
unfolding step_at
step_end w left n inside is none = record {
  reads = ap (λ (l : Option ℕ). step_at l (ahead w)) (is ∙ ap Some none);
  passed = record {
    same = refl;
    within = inside;
    forward = omega arith;
    rises = omega arith;
    heads = omega arith;
    nodes = refl;
  };
  counted = ap (λ (l : Option ℕ). raised w.heads (break_heads l)) (sym is);
}

step_known : (n : ℕ) (bytes : List ℕ)
    → step_at (Some (suc n)) bytes ≡ (head_at bytes >>= λ h. Some (element (Some n) h.0 h.1))
unfolding step_at
step_known n bytes = refl

step_unknown : (bytes : List ℕ) → step_at None bytes
    ≡ (head_at bytes >>= λ h. cond (is_break h.0) (Some (end h.1)) (Some (element None h.0 h.1)))
unfolding step_at
step_unknown bytes = refl

-- in a list of definite length with some elements left
known_is : (left : Option ℕ) (n : ℕ) (bytes : List ℕ) → left ≡ Some n → 0 < n
    → step_at left bytes ≡ (head_at bytes >>= λ h. Some (element (Some (n - 1)) h.0 h.1))
known_is left n bytes is some =
    let one : n ≡ suc (n - 1) = omega arith in
    ap (λ (l : Option ℕ). step_at l bytes) (is ∙ ap Some one) ∙ step_known (n - 1) bytes

pub element_known : (a b : CursorState) (left : Option ℕ) (n : ℕ) (h : Head) → left ≡ Some n → 0 < n → HeadRead a b h
    → ElementRead left (Some (n - 1)) a b h
element_known a b left n h is some r = record {
  reads = known_is left n (ahead a) is some
      ∙ bind_at (head_at (ahead a)) (h, ahead b) (λ h. Some (element (Some (n - 1)) h.0 h.1)) r.reads;
  passed = r.passed;
  counted = r.counted;
  further = r.further;
  well_formed = r.well_formed;
}

pub no_element_known : (a b : CursorState) (left : Option ℕ) (n : ℕ) → left ≡ Some n → 0 < n
    → NoHead (head_at (ahead a)) a b → NoHead (step_at left (ahead a)) a b
no_element_known a b left n is some r = record {
  reads = known_is left n (ahead a) is some
      ∙ bind_none (head_at (ahead a)) (λ h. Some (element (Some (n - 1)) h.0 h.1)) r.reads;
  stopped = r.stopped;
}

-- in a list that a break ends
unknown_is : (left : Option ℕ) (bytes : List ℕ) → left ≡ None → step_at left bytes
    ≡ (head_at bytes >>= λ h. cond (is_break h.0) (Some (end h.1)) (Some (element None h.0 h.1)))
unknown_is left bytes is = ap (λ (l : Option ℕ). step_at l bytes) is ∙ step_unknown bytes

pub element_unknown : (a b : CursorState) (left : Option ℕ) (h : Head) → left ≡ None → is_break h ≡ false → HeadRead a b h
    → ElementRead left left a b h
element_unknown a b left h is goes_on r = record {
  reads = unknown_is left (ahead a) is ∙ bind_at (head_at (ahead a)) (h, ahead b)
      (λ h. cond (is_break h.0) (Some (end h.1)) (Some (element None h.0 h.1))) r.reads ∙ rw (goes_on, is) refl;
  passed = r.passed;
  counted = r.counted;
  further = r.further;
  well_formed = r.well_formed;
}

pub break_unknown : (a b : CursorState) (left : Option ℕ) (h : Head) → left ≡ None → is_break h ≡ true → HeadRead a b h
    → EndRead left a b
break_unknown a b left h is ends r = record {
  reads = unknown_is left (ahead a) is ∙ bind_at (head_at (ahead a)) (h, ahead b)
      (λ h. cond (is_break h.0) (Some (end h.1)) (Some (element None h.0 h.1))) r.reads ∙ rw ends refl;
  passed = r.passed;
  counted = r.counted ∙ ap (λ (l : Option ℕ). raised a.heads (break_heads l)) (sym is);
}

pub no_element_unknown : (a b : CursorState) (left : Option ℕ) → left ≡ None → NoHead (head_at (ahead a)) a b
    → NoHead (step_at left (ahead a)) a b
no_element_unknown a b left is r = record {
  reads = unknown_is left (ahead a) is ∙ bind_none (head_at (ahead a))
      (λ h. cond (is_break h.0) (Some (end h.1)) (Some (element None h.0 h.1))) r.reads;
  stopped = r.stopped;
}

-- ---- a given number of bytes

pub record PieceTaken (is_text : Bool) (len : ℕ) (bytes : List ℕ) (place : ℕ) (s u : List ℕ) : Type 0 where
  pub reads : piece_at is_text len (drop place bytes) ≡ Some (s, drop (length bytes - length u) bytes)
  pub forward : place ≤ length bytes - length u
  pub allowed_text : is_allowed is_text s ≡ true
  pub shorter : length u ≤ length bytes

pub piece_taken : (is_text : Bool) (len : ℕ) (bytes : List ℕ) (place : ℕ) (s u : List ℕ) → IsPlaced bytes place
    → (let read : List ℕ × List ℕ = (s, u) in Some read)
    ≡ piece_at is_text len (take (length bytes - place) (drop place bytes)) → PieceTaken is_text len bytes place s u
piece_taken is_text len bytes place s u placed e =
    let reads : piece_at is_text len (drop place bytes) ≡ Some (s, u) =
    sym (e ∙ ap (piece_at is_text len) (take_rest bytes place)) in
    let t = piece_takes is_text len (drop place bytes) s u (IsBytes-drop place bytes placed.fits) reads in
    let b = is_after bytes place t.text u placed.within t.parts in
    record {
      reads = reads ∙ ap (λ (r : List ℕ). Some (s, r)) (sym b.rest_is);
      forward = omega (arith, b.place_is);
      allowed_text = is_allowed-is is_text s t.encoded.0.1;
      shorter = b.shorter;
    }

pub piece_read : (is_text : Bool) (len : ℕ) (bytes : List ℕ) (place heads nodes : ℕ) (s u : List ℕ)
    → PieceTaken is_text len bytes place s u → PieceRead is_text (piece_at is_text len (drop place bytes))
    (walk bytes place heads nodes) (walk bytes (length bytes - length u) heads nodes) s
piece_read is_text len bytes place heads nodes s u t = record {
  reads = t.reads;
  passed = record {
    same = refl;
    within = omega arith;
    forward = t.forward;
    rises = omega arith;
    heads = omega (arith, t.forward);
    nodes = refl;
  };
  uncounted = refl;
  allowed_text = t.allowed_text;
}

-- ---- the next head, by its encoding

pub head_passed : (a b : CursorState) → IsPlaced a.bytes a.place → b.heads ≡ raised a.heads 1 → (h : Head) → HeadRead a b h
    → PassesHead a b h
head_passed a b placed counted h r =
    let t = head_takes (ahead a) h (ahead b) (IsBytes-drop a.place a.bytes placed.fits) r.reads in
    let long : length b.bytes ≡ length a.bytes = ap length r.passed.same in
    record {
      text = t.text;
      encoded = t.encoded;
      parts = t.parts;
      place = omega (
        arith,
        long,
        ap length t.parts,
        length-append t.text (ahead b),
        r.further,
        r.passed.within,
        placed.within,
        length-drop a.place a.bytes,
        length-drop b.place b.bytes,
      );
      heads = counted;
      nodes = r.passed.nodes;
      bytes = r.passed.same;
    }

pub head_missed : (a b : CursorState) → b.heads ≡ raised a.heads 1 → b.place ≡ a.place → NoHead (head_at (ahead a)) a b
    → FindsNoHead a b
head_missed a b counted stays n = record {
  none = λ h text rest s e. none_is_some (h, rest) (sym n.reads ∙ ap head_at e ∙ head_again h text rest s);
  place = stays;
  heads = counted;
  nodes = n.stopped.nodes;
  bytes = n.stopped.same;
}

pub finds_head : (a b : CursorState) (found : Option Head) → IsPlaced a.bytes a.place → b.heads ≡ raised a.heads 1
    → IfNone found (b.place ≡ a.place) → ReadsHead a b found → FindsHead a b found
finds_head a b (Some h) placed counted stays r = head_passed a b placed counted h r
finds_head a b None placed counted stays r = head_missed a b counted stays r
