-- The pieces of a borrowed string.
use Rattle.std.proofs.Common.{◌≡◌, ℕ, ◌+◌, ◌-◌, Bool, List, [], ◌∷◌, ◌++◌, length, take, drop, Option, Some, None, refl, sym, ap, subst, ◌∙◌, append_assoc, arith}
use Rattle.std.specs.List.{concat}
use Rattle.std.proofs.lemmas.List.{append-nil, length-drop, take_all}
use Rattle.passkey_cbor.specs.Heads.{break}
use Rattle.passkey_cbor.specs.Inside.{Left, Content}
use Rattle.passkey_cbor.specs.HeadReading.{head_at}
use Rattle.passkey_cbor.specs.Reading.{end, element, step_at, chunk}
use Rattle.passkey_cbor.specs.CursorState.{CursorState, ahead, raised, break_heads, Passed}
use Rattle.passkey_cbor.specs.Steps.{NoHead, ElementRead, EndRead, PieceRead}
use Rattle.passkey_cbor.specs.Lent.{Region, IsRegion, HoldsString, heads_in, LooksAtAll}
use Rattle.passkey_cbor.specs.Pieces.{LendsPiece, IsAtEnd, LendsNoPiece, LooksAhead, in_chunks, LendsUpTo}
use Rattle.passkey_cbor.specs.declared.head.Head.{Head}
use Rattle.passkey_cbor.specs.declared.head.Head.TheVariants as head
use Rattle.passkey_cbor.proofs.items.Binds.{some_is, none_is_some, bind_some}
use Rattle.passkey_cbor.proofs.heads.Raised.{raised-raised}
use Rattle.passkey_cbor.proofs.heads.HeadAgain.{head_again}
use Rattle.passkey_cbor.proofs.items.Lists.{step_unknown}
use Rattle.passkey_cbor.proofs.strings.Strings.{AChunk, follows_chunk}

-- ---- what comes first in a region in chunks

-- a chunk, by its head and what follows that, and then the others
record ChunkFirst (is_text : Bool) (bytes x : List ℕ) (xs : List (List ℕ)) : Type 0 where
  h : Head
  following : List ℕ
  rest : List ℕ
  steps : step_at None bytes ≡ Some (element None h following)
  reads : chunk is_text h following ≡ Some (x, rest)
  others : Left (AChunk is_text) None xs rest

abbrev IsEncodedFirst : Bool → List (List ℕ) → List ℕ → Type 0
IsEncodedFirst is_text [] bytes = step_at None bytes ≡ Some (end [])
IsEncodedFirst is_text (x ∷ xs) bytes = ChunkFirst is_text bytes x xs

break_first : step_at None (break ∷ []) ≡ Some (end [])
unfolding step_at
break_first = rw (head_again head.Break (break ∷ []) [] refl) refl

stands_first : (is_text : Bool) (chunks : List (List ℕ)) (bytes : List ℕ) → Left (AChunk is_text) None chunks bytes
    → IsEncodedFirst is_text chunks bytes
stands_first is_text [] bytes l = rw (l.whole, l.first, l.second) break_first
stands_first is_text (x ∷ xs) bytes l =
    let e = l.first in
    let rest = e.back ++ l.back in
    let whole : bytes ≡ e.front ++ rest = rw (l.whole, e.whole) (append_assoc e.front e.back l.back) in
    let f = follows_chunk is_text in
    let b = bind_some (head_at (e.front ++ rest)) (λ h. chunk is_text h.0 h.1) (x, rest)
    (f.again x e.front rest e.first) in
    record {
      h = b.0.0;
      following = b.0.1;
      rest = rest;
      steps = ap (step_at None) whole
          ∙ step_unknown (e.front ++ rest) b.0.0 b.0.1 (f.no_break b.0.0 b.0.1 (x, rest) b.2) b.1;
      reads = b.2;
      others = record { front = e.back; back = l.back; first = e.second; second = l.second; whole = refl };
    }

-- the chunks in a region
chunks_left : (is_text : Bool) (s bytes : List ℕ) (c : Content is_text None s bytes)
    → Left (AChunk is_text) None c.first.0 bytes
chunks_left is_text s bytes c =
    record { front = c.front; back = c.back; first = c.first.1.1; second = c.second; whole = c.whole }

-- ---- what a step over the region finds

-- the chunk that was decoded is the first one
record Split (is_text : Bool) (chunks : List (List ℕ)) (piece rest : List ℕ) : Type 0 where
  others : List (List ℕ)
  chunks_are : chunks ≡ piece ∷ others
  left : Left (AChunk is_text) None others rest

split : (is_text : Bool) (chunks : List (List ℕ)) (bytes following piece rest : List ℕ) (after : Option ℕ) (h : Head)
    → IsEncodedFirst is_text chunks bytes → step_at None bytes ≡ Some (element after h following)
    → chunk is_text h following ≡ Some (piece, rest) → Split is_text chunks piece rest
split is_text [] bytes following piece rest after h ends step read = absurd (let both : end []
    ≡ element after h following = some_is (end []) (element after h following) (sym ends ∙ step) in absurd cc)
split is_text (x ∷ xs) bytes following piece rest after h c step read =
    let same = some_is (element None c.h c.following) (element after h following) (sym c.steps ∙ step) in
    let head_is : c.h ≡ h = cc in
    let after_is : c.following ≡ following = cc in
    let pair = some_is (x, c.rest) (piece, rest) (sym c.reads ∙ ap (λ (k : Head). chunk is_text k c.following) head_is
    ∙ ap (chunk is_text h) after_is ∙ read) in
    record {
      others = xs;
      chunks_are = ap (λ (p : List ℕ × List ℕ). p.0 ∷ xs) pair;
      left = subst (Left (AChunk is_text) None xs) (ap (λ (p : List ℕ × List ℕ). p.1) pair) c.others;
    }

-- after the head of a chunk, its content follows
no_chunk : (is_text : Bool) (chunks : List (List ℕ)) (bytes following : List ℕ) (after : Option ℕ) (h : Head)
    → IsEncodedFirst is_text chunks bytes → step_at None bytes ≡ Some (element after h following)
    → chunk is_text h following ≡ None → ⊥
no_chunk is_text [] bytes following after h ends step none = let both : end [] ≡ element after h following =
    some_is (end []) (element after h following) (sym ends ∙ step) in absurd cc
no_chunk is_text (x ∷ xs) bytes following after h c step none =
    let same = some_is (element None c.h c.following) (element after h following) (sym c.steps ∙ step) in
    let head_is : c.h ≡ h = cc in
    let after_is : c.following ≡ following = cc in
    none_is_some (x, c.rest) (sym none
    ∙ sym (ap (λ (k : Head). chunk is_text k c.following) head_is ∙ ap (chunk is_text h) after_is) ∙ c.reads)

-- a step finds a chunk or the break
no_step : (is_text : Bool) (chunks : List (List ℕ)) (bytes : List ℕ) → IsEncodedFirst is_text chunks bytes
    → step_at None bytes ≡ None → ⊥
no_step is_text [] bytes ends none = none_is_some (end []) (sym none ∙ ends)
no_step is_text (x ∷ xs) bytes c none = none_is_some (element None c.h c.following) (sym none ∙ c.steps)

-- after the last chunk
no_chunks : (is_text : Bool) (chunks : List (List ℕ)) (bytes rest : List ℕ) → IsEncodedFirst is_text chunks bytes
    → step_at None bytes ≡ Some (end rest) → chunks ≡ []
no_chunks is_text [] bytes rest ends step = refl
no_chunks is_text (x ∷ xs) bytes rest c step = let both : element None c.h c.following ≡ end rest =
    some_is (element None c.h c.following) (end rest) (sym c.steps ∙ step) in absurd cc

-- ---- the first chunk, and the region after it

-- a region, and a cursor at its start
module _ (is_text : Bool) (region : List ℕ) (a : CursorState) (at_start : ahead a ≡ region) where
  first_there : (s : List ℕ) (t : Content is_text None s region) → IsEncodedFirst is_text t.first.0 (ahead a)
  first_there s t = stands_first is_text t.first.0 (ahead a)
      (subst (Left (AChunk is_text) None t.first.0) (sym at_start) (chunks_left is_text s region t))

  pub no_step_there : (b : CursorState) → NoHead (step_at None (ahead a)) a b → (s : List ℕ)
      → Content is_text None s region → ⊥
  no_step_there b n s t = no_step is_text t.first.0 (ahead a) (first_there s t) n.reads

  pub no_chunk_there : (after : Option ℕ) (b d : CursorState) (h : Head) → ElementRead None after a b h
      → NoHead (chunk is_text h (ahead b)) b d → (s : List ℕ) → Content is_text None s region → ⊥
  no_chunk_there after b d h n none s t =
      no_chunk is_text t.first.0 (ahead a) (ahead b) after h (first_there s t) n.reads none.reads

  pub at_end : (b : CursorState) → EndRead None a b → IsAtEnd is_text (in_chunks region)
  at_end b n s t =
      let none = no_chunks is_text t.first.0 (ahead a) (ahead b) (first_there s t) n.reads in
      (sym t.first.1.0 ∙ ap concat none, ap (λ (cs : List (List ℕ)). length cs + 1) none)

  pub splits_chunk : (after : Option ℕ) (b d : CursorState) (h : Head) (piece rest : List ℕ) → ElementRead None after a b h
      → PieceRead is_text (chunk is_text h (ahead b)) b d piece → rest ≡ ahead d
      → LendsPiece is_text (in_chunks region) (in_chunks rest) piece
  splits_chunk after b d h piece rest n p rest_is = record {
    left = λ s t.
        let c = split is_text t.first.0 (ahead a) (ahead b) piece rest after h (first_there s t) n.reads
        (p.reads ∙ ap (λ (r : List ℕ). Some (piece, r)) (sym rest_is)) in
        record {
          rest = concat c.others;
          tells = record {
            front = c.left.front;
            back = c.left.back;
            first = (c.others, (refl, c.left.first));
            second = c.left.second;
            whole = c.left.whole;
          };
          whole = sym t.first.1.0 ∙ ap concat c.chunks_are;
          heads = omega (arith, ap length c.chunks_are);
        };
    shorter = omega (
      arith,
      ap length at_start,
      ap length rest_is,
      length-drop a.place a.bytes,
      length-drop d.place d.bytes,
      ap length n.passed.same,
      ap length p.passed.same,
      n.further,
      p.passed.forward,
      n.passed.within,
      p.passed.within,
    );
  }

-- the bytes after the chunk that was decoded
pub rest_there : (region : List ℕ) (a b d : CursorState) (place : ℕ)
    → a ≡ record { bytes = region; place = 0; heads = 0; nodes = 0 } → Passed a b → Passed b d → place ≡ d.place
    → take (length region - place) (drop place region) ≡ ahead d
rest_there region a b d place start one two at =
    let same : d.bytes ≡ region = two.same ∙ one.same ∙ ap (λ (w : CursorState). w.bytes) start in
    take_all (length region - place) (drop place region) (omega (arith, length-drop place region))
    ∙ ap (λ (n : ℕ). drop n region) at ∙ ap (drop d.place) (sym same)

-- ---- what is left of a string, in chunks

pub region_in_chunks : (is_text : Bool) (len : Option ℕ) (region : List ℕ) → len ≡ None
    → IsRegion is_text (record { len = len; bytes = region }) → IsRegion is_text (in_chunks region)
region_in_chunks is_text (Some n) region none r = absurd (none_is_some n (sym none))
region_in_chunks is_text None region none r = r

-- the region after a chunk
pub region_after : (is_text : Bool) (len : Option ℕ) (region rest piece : List ℕ) → len ≡ None → IsRegion is_text
    (record { len = len; bytes = region }) → LendsPiece is_text (in_chunks region) (in_chunks rest) piece
    → IsRegion is_text (record { len = len; bytes = rest })
region_after is_text (Some n) region rest piece none r l = absurd (none_is_some n (sym none))
region_after is_text None region rest piece none r l = let left = l.left r.0 r.1 in (left.rest, left.tells)

pub break_lent : (is_text : Bool) (len : Option ℕ) (region : List ℕ) → len ≡ None → IsAtEnd is_text (in_chunks
    region) → LendsNoPiece is_text (record { len = len; bytes = region }) (record { len = Some 0; bytes = [] })
break_lent is_text (Some n) region none l = absurd (none_is_some n (sym none))
break_lent is_text None region none l = record { none = l; ended = refl }

-- ---- a loop over the pieces

pub lends_start : (is_text : Bool) (whole : Region) (a : CursorState) → LendsUpTo is_text whole whole a a []
lends_start is_text whole a = record {
  lent = λ s t. record { rest = s; tells = t; joined = refl; counted = 0; heads_are = omega arith; heads = refl };
  place = refl;
  nodes = refl;
  same = refl;
}

pub lends_on : (is_text : Bool) (whole left next : Region) (a b c : CursorState) (bytes more piece : List ℕ)
    → LendsUpTo is_text whole left a b bytes → LendsPiece is_text left next piece → LooksAhead left b c
    → more ≡ bytes ++ piece → LendsUpTo is_text whole next a c more
lends_on is_text whole left next a b c bytes more piece l p looks more_is = record {
  lent = λ s t.
      let h = l.lent s t in
      let q = p.left h.rest h.tells in
      record {
        rest = q.rest;
        tells = q.tells;
        joined = h.joined ∙ ap (λ (r : List ℕ). bytes ++ r) q.whole ∙ sym (append_assoc bytes piece q.rest)
            ∙ ap (λ (u : List ℕ). u ++ q.rest) (sym more_is);
        counted = h.counted + break_heads left.len;
        heads_are = omega (arith, h.heads_are, q.heads);
        heads = looks.heads ∙ ap (λ (n : ℕ). raised n (break_heads left.len)) h.heads
            ∙ raised-raised a.heads h.counted (break_heads left.len);
      };
  place = looks.place ∙ l.place;
  nodes = looks.nodes ∙ l.nodes;
  same = looks.bytes ∙ l.same;
}

-- at the end, the pieces are the string, and all heads were counted
pub lends_all : (is_text : Bool) (whole left next : Region) (a b c : CursorState) (bytes : List ℕ)
    → LendsUpTo is_text whole left a b bytes → LendsNoPiece is_text left next → LooksAhead left b c
    → ((s : List ℕ) → HoldsString is_text whole s → s ≡ bytes) × LooksAtAll is_text whole a c
lends_all is_text whole left next a b c bytes l p looks = (
  λ s t. let h =
      l.lent s t in h.joined ∙ ap (λ (r : List ℕ). bytes ++ r) (p.none h.rest h.tells).0 ∙ append-nil bytes,
  record {
    heads = λ s t.
        let h = l.lent s t in
        let all : h.counted + break_heads left.len ≡ heads_in is_text whole.len s whole.bytes t =
        omega (arith, h.heads_are, (p.none h.rest h.tells).1) in
        looks.heads ∙ ap (λ (n : ℕ). raised n (break_heads left.len)) h.heads
        ∙ raised-raised a.heads h.counted (break_heads left.len) ∙ ap (raised a.heads) all;
    place = looks.place ∙ l.place;
    nodes = looks.nodes ∙ l.nodes;
    bytes = looks.bytes ∙ l.same;
  },
)
