-- The chunks of a string, joined.
use Rattle.std.proofs.Common.{◌≡◌, ℕ, suc, ◌+◌, ◌<◌, ◌≤◌, Bool, true, false, cond, List, [], ◌∷◌, ◌++◌, length, Option, Some, None, Ok, Err, refl, sym, ap, subst, ◌∙◌, append_assoc, zero-add, arith}
use Rattle.std.proofs.Common.{Vec, Global}
use Rattle.std.specs.List.{concat}
use Rattle.std.proofs.lemmas.List.{append-nil, length-append, length-drop}
use Rattle.std.proofs.lemmas.Str.{IsUtf8-nil, IsUtf8-append, IsUtf8-from_is_utf8, is_utf8-from_IsUtf8}
use Rattle.passkey_cbor.specs.Reading.{chunk, is_allowed, step_at, list_at, string_at}
use Rattle.passkey_cbor.specs.CursorState.{CursorState, ahead, raised, break_heads, IsInside, MovesForward}
use Rattle.passkey_cbor.specs.Steps.{NoHead, PassesOver, ElementRead, EndRead, PieceRead, IsLengthOf, CountsAll, CountsSome, CountsSought}
use Rattle.passkey_cbor.specs.Names.{begins_one, heads_until}
use Rattle.passkey_cbor.specs.Building.{IsNotEmpty, total, some_bytes, Makes}
use Rattle.passkey_cbor.specs.declared.head.Head.{Head}
use Rattle.passkey_cbor.specs.declared.error.CborError.TheVariants as error
use Rattle.passkey_cbor.proofs.items.Binds.{some_is, none_is_some, bind_some}
use Rattle.passkey_cbor.proofs.skipping.After.{string_chunks, made_skipped}
use Rattle.passkey_cbor.proofs.items.Shrinking.{list_left, chunk_left, chunk_size}
use Rattle.passkey_cbor.proofs.skipping.Skipping.{Goes, goes_start, goes_on}
use Rattle.passkey_cbor.proofs.heads.Raised.{raised-le, raised-raised}
use Rattle.passkey_cbor.proofs.heads.HeadCounts.{spans_then, spans_end, spans_chunk}
use Rattle.passkey_cbor.proofs.building.Gathering.{moves_then, moves_passed, moves_stopped, passed_heads, Gathers, gathers_start, gathers_nothing, gathers_end, Here, gathers_here, gathers_on}

-- the number of data items in a chunk: none
abbrev pub no_nodes : List ℕ → ℕ
no_nodes s = 0

total-no_nodes : (chunks : List (List ℕ)) → total no_nodes chunks ≡ 0
total-no_nodes [] = refl
total-no_nodes (c ∷ chunks) = omega (arith, total-no_nodes chunks)

-- The chunks so far join to the bytes, and one head was counted for each.
pub record Collected (old now : CursorState) (bytes : List ℕ) (chunks : List (List ℕ)) : Type 0 where
  pub joined : concat chunks ≡ bytes
  pub heads : now.heads ≡ raised old.heads (length chunks)

-- The invariant of a loop over chunks.
abbrev pub Collects : Bool → Option ℕ → CursorState → CursorState → List ℕ → Type 0
Collects is_text left old now bytes = Gathers (chunk is_text) no_nodes None left old now (Collected old now bytes)

is_allowed-append : (is_text : Bool) (s t : List ℕ) → is_allowed is_text s ≡ true → is_allowed is_text t ≡ true
    → is_allowed is_text (s ++ t) ≡ true
is_allowed-append false s t p q = refl
is_allowed-append true s t p q =
    is_utf8-from_IsUtf8 (s ++ t) (IsUtf8-append s t (IsUtf8-from_is_utf8 s p) (IsUtf8-from_is_utf8 t q))

pub is_allowed-more : (is_text : Bool) (s t u : List ℕ) → u ≡ s ++ t → is_allowed is_text s ≡ true
    → is_allowed is_text t ≡ true → is_allowed is_text u ≡ true
is_allowed-more is_text s t u e p q = ap (is_allowed is_text) e ∙ is_allowed-append is_text s t p q

pub is_allowed-nil : (is_text : Bool) (u : List ℕ) → u ≡ [] → is_allowed is_text u ≡ true
is_allowed-nil false u e = refl
is_allowed-nil true u e = ap (is_allowed true) e ∙ is_utf8-from_IsUtf8 [] IsUtf8-nil

pub concat-push : (chunks : List (List ℕ)) (s : List ℕ) → concat (chunks ++ s ∷ []) ≡ concat chunks ++ s
concat-push [] s = append-nil s
concat-push (c ∷ chunks) s =
    ap (λ (t : List ℕ). c ++ t) (concat-push chunks s) ∙ sym (append_assoc c (concat chunks) s)

pub concat-append : (xs ys : List (List ℕ)) → concat (xs ++ ys) ≡ concat xs ++ concat ys
concat-append [] ys = refl
concat-append (x ∷ xs) ys =
    ap (λ (t : List ℕ). x ++ t) (concat-append xs ys) ∙ sym (append_assoc x (concat xs) (concat ys))

-- if one chunk isn't empty, the whole isn't
concat-not_empty : (chunks others : List (List ℕ)) (s : List ℕ) → 0 < length s
    → IsNotEmpty (concat (chunks ++ s ∷ others))
concat-not_empty [] others [] some = absurd (omega arith)
concat-not_empty [] others (b ∷ s) some = tt
concat-not_empty ([] ∷ chunks) others s some = concat-not_empty chunks others s some
concat-not_empty ((b ∷ c) ∷ chunks) others s some = tt

-- ---- the loop's result, by its invariant

pub collects_start : (is_text : Bool) (a : CursorState) (bytes : List ℕ) → IsInside a → bytes ≡ []
    → Collects is_text None a a bytes
collects_start is_text a bytes inside none = gathers_start (chunk is_text) no_nodes None a (Collected a a bytes)
    inside (record { joined = sym none; heads = refl })

-- one more chunk
collected_on : (a b c d : CursorState) (bytes more s x : List ℕ) (before : List (List ℕ)) → Collected a b bytes before
    → c.heads ≡ raised b.heads 1 → d.heads ≡ c.heads → more ≡ bytes ++ s → s ≡ x
    → Collected a d more (before ++ x ∷ [])
collected_on a b c d bytes more s x before done counted uncounted pushed x_is =
    let one_more : length before + 1 ≡ length (before ++ x ∷ []) = omega (arith, length-append before (x ∷ [])) in
    record {
      joined = concat-push before x ∙ ap (λ (t : List ℕ). t ++ x) done.joined
          ∙ ap (λ (t : List ℕ). bytes ++ t) (sym x_is) ∙ sym pushed;
      heads = uncounted ∙ counted ∙ ap (λ (n : ℕ). raised n 1) done.heads ∙ raised-raised a.heads (length before) 1
          ∙ ap (raised a.heads) one_more;
    }

pub collects_on : (is_text : Bool) (left after : Option ℕ) (a b c d : CursorState) (h : Head) (bytes more s : List ℕ)
    → Collects is_text left a b bytes → ElementRead left after b c h
    → PieceRead is_text (chunk is_text h (ahead c)) c d s → more ≡ bytes ++ s → Collects is_text after a d more
collects_on is_text left after a b c d h bytes more s g n p pushed =
    gathers_on (chunk is_text) no_nodes None left after a b c d h (Collected a b bytes) (Collected a d more) g n
    (moves_passed c d p.passed) (spans_chunk is_text h c d s p) (λ before x u done one.
    let same = some_is (s, ahead d) (x, u) (sym p.reads ∙ one) in
    let x_is : s ≡ x = ap (λ (q : List ℕ × List ℕ). q.0) same in
    let rest_is : ahead d ≡ u = ap (λ (q : List ℕ × List ℕ). q.1) same in
    record {
      more = collected_on a b c d bytes more s x before done n.counted p.uncounted pushed x_is;
      rest_is = rest_is;
      nodes = p.passed.nodes;
      heads = omega (arith, passed_heads c d p.passed, ap length rest_is);
    })

-- the chunks of an indefinite-length string
pub record ChunksOf (is_text : Bool) (bytes s rest : List ℕ) : Type 0 where
  pub chunks : List (List ℕ)
  pub reads : list_at (chunk is_text) None bytes ≡ Some (chunks, rest)
  pub joined : concat chunks ≡ s

pub chunks_of : (is_text : Bool) (bytes s rest : List ℕ) → string_at is_text None bytes ≡ Some (s, rest)
    → ChunksOf is_text bytes s rest
chunks_of is_text bytes s rest e =
    let cs = bind_some (list_at (chunk is_text) None bytes) (λ cs. Some (concat cs.0, cs.1)) (s, rest)
    (sym (string_chunks is_text None bytes refl) ∙ e) in
    let p = some_is (concat cs.0.0, cs.0.1) (s, rest) cs.2 in
    record {
      chunks = cs.0.0;
      reads = cs.1 ∙ ap (λ (q : List ℕ × List ℕ). Some (cs.0.0, q.1)) p;
      joined = ap (λ (q : List ℕ × List ℕ). q.0) p;
    }

-- no string is decoded, as the chunks show
no_string : (is_text : Bool) (a b : CursorState) → MovesForward a b → ((s rest : List ℕ) → string_at is_text None (ahead a)
    ≡ Some (s, rest) → ⊥) → Makes some_bytes 0 (string_at is_text None (ahead a)) a b (Err error.DecodeFailed)
no_string is_text a b moves none =
    record { moves = moves; spans = tt; made = none; heads = λ s rest e. absurd (none s rest e) }

pub collects_malformed : (is_text : Bool) (left : Option ℕ) (a b c : CursorState) (bytes : List ℕ)
    → Collects is_text left a b bytes → NoHead (step_at left (ahead b)) b c
    → Makes some_bytes 0 (string_at is_text None (ahead a)) a c (Err error.DecodeFailed)
collects_malformed is_text left a b c bytes g n =
    no_string is_text a c (moves_then a b c g.moves (moves_stopped b c n.stopped)) (λ s rest e.
    let cs = chunks_of is_text (ahead a) s rest e in
    gathers_nothing (chunk is_text) no_nodes None left a b c (Collected a b bytes) g n cs.chunks rest cs.reads)

pub collects_no_chunk : (is_text : Bool) (left after : Option ℕ) (a b c d : CursorState) (h : Head) (bytes : List ℕ)
    → Collects is_text left a b bytes → ElementRead left after b c h → NoHead (chunk is_text h (ahead c)) c d
    → Makes some_bytes 0 (string_at is_text None (ahead a)) a d (Err error.DecodeFailed)
collects_no_chunk is_text left after a b c d h bytes g n none =
    no_string is_text a d (moves_then a b d g.moves
    (moves_then b c d (moves_passed b c n.passed) (moves_stopped c d none.stopped))) (λ s rest e.
    let cs = chunks_of is_text (ahead a) s rest e in
    let r = gathers_here (chunk is_text) no_nodes None left after a b c h (Collected a b bytes) g n cs.chunks rest
    cs.reads in
    none_is_some (r.first, r.middle) (sym none.reads ∙ r.one))

pub collects_full : (is_text : Bool) (left after : Option ℕ) (a b c d : CursorState) (h : Head) (bytes s : List ℕ)
    → Collects is_text left a b bytes → ElementRead left after b c h
    → PieceRead is_text (chunk is_text h (ahead c)) c d s → 0 < length s
    → Makes some_bytes 0 (string_at is_text None (ahead a)) a d (Err error.OutOfMemory)
collects_full is_text left after a b c d h bytes s g n p some = record {
  moves = moves_then a b d g.moves (moves_then b c d (moves_passed b c n.passed) (moves_passed c d p.passed));
  spans = tt;
  made = λ all rest e.
      let cs = chunks_of is_text (ahead a) all rest e in
      let r = here cs.chunks rest cs.reads in
      let long : 0 < length r.first = subst (λ (t : List ℕ). 0 < length t) (first_is r.first r.middle r.one) some in (
        subst IsNotEmpty (ap concat (sym r.whole) ∙ cs.joined) (concat-not_empty r.before r.others r.first long),
        omega (arith, p.passed.nodes, r.nodes, ap (raised a.nodes) (total-no_nodes r.before)),
      );
  heads = λ all rest e.
      let cs = chunks_of is_text (ahead a) all rest e in
      let r = here cs.chunks rest cs.reads in
      let rest_is : ahead d ≡ r.middle =
      ap (λ (q : List ℕ × List ℕ). q.1) (some_is (s, ahead d) (r.first, r.middle) (sym p.reads ∙ r.one)) in
      omega (
        arith,
        r.heads,
        passed_heads c d p.passed,
        ap length rest_is,
        list_left (chunk is_text) (chunk_left is_text) r.fuel after r.middle (r.others, rest) r.reads,
      );
} where
  here : (chunks : List (List ℕ)) (rest : List ℕ) → list_at (chunk is_text) None (ahead a) ≡ Some (chunks, rest)
      → Here (chunk is_text) no_nodes after a c h (Collected a b bytes) chunks rest
  here = gathers_here (chunk is_text) no_nodes None left after a b c h (Collected a b bytes) g n

  first_is : (x u : List ℕ) → chunk is_text h (ahead c) ≡ Some (x, u) → s ≡ x
  first_is x u one = ap (λ (q : List ℕ × List ℕ). q.0) (some_is (s, ahead d) (x, u) (sym p.reads ∙ one))

pub collects_end : (is_text : Bool) (left : Option ℕ) (a b c : CursorState) (v : Vec ℕ Global)
    → Collects is_text left a b v.items → EndRead left b c
    → Makes some_bytes 0 (string_at is_text None (ahead a)) a c (Ok v)
collects_end is_text left a b c v g n = record {
  moves = moves_then a b c g.moves (moves_passed b c n.passed);
  spans = spans_then 0 a b c g.spans (spans_end left b c n);
  made = λ s rest e.
      let cs = chunks_of is_text (ahead a) s rest e in
      let k = gathers_end (chunk is_text) no_nodes None left a b c (Collected a b v.items) g n cs.chunks rest
      cs.reads in
      (sym k.done.joined ∙ cs.joined, k.rest_is, k.nodes ∙ ap (raised a.nodes) (total-no_nodes cs.chunks));
  heads = λ s rest e.
      let cs = chunks_of is_text (ahead a) s rest e in
      (gathers_end (chunk is_text) no_nodes None left a b c (Collected a b v.items) g n cs.chunks rest
      cs.reads).heads;
}

-- ---- how many heads the loop counted, by its invariant

pub counts_no_step : (is_text : Bool) (left : Option ℕ) (a b c : CursorState) (bytes : List ℕ) → Collects is_text left a b
    bytes → NoHead (step_at left (ahead b)) b c → c.heads ≡ raised b.heads 1 → CountsSome is_text a c
counts_no_step is_text left a b c bytes g n one = record {
  least = omega (arith, g.moves.heads, one);
  heads = λ chunks rest e. absurd
      (gathers_nothing (chunk is_text) no_nodes None left a b c (Collected a b bytes) g n chunks rest e);
}

pub counts_no_chunk : (is_text : Bool) (left after : Option ℕ) (a b c d : CursorState) (h : Head) (bytes : List ℕ)
    → Collects is_text left a b bytes → ElementRead left after b c h → NoHead (chunk is_text h (ahead c)) c d
    → d.heads ≡ c.heads → CountsSome is_text a d
counts_no_chunk is_text left after a b c d h bytes g n none uncounted = record {
  least = omega (arith, g.moves.heads, n.counted, uncounted);
  heads = λ chunks rest e.
      let r =
      gathers_here (chunk is_text) no_nodes None left after a b c h (Collected a b bytes) g n chunks rest e in
      absurd (none_is_some (r.first, r.middle) (sym none.reads ∙ r.one));
}

pub counts_here : (is_text : Bool) (left after : Option ℕ) (a b c d : CursorState) (h : Head) (bytes s : List ℕ)
    → Collects is_text left a b bytes → ElementRead left after b c h
    → PieceRead is_text (chunk is_text h (ahead c)) c d s → CountsSome is_text a d
counts_here is_text left after a b c d h bytes s g n p = record {
  least = omega (arith, g.moves.heads, n.counted, p.uncounted);
  heads = λ chunks rest e.
      let r =
      gathers_here (chunk is_text) no_nodes None left after a b c h (Collected a b bytes) g n chunks rest e in
      omega (
        arith,
        r.done.heads,
        raised-le a.heads (length r.before),
        n.counted,
        p.uncounted,
        ap length r.whole,
        length-append r.before (r.first ∷ r.others),
      );
}

-- a break was decoded after these chunks
ends_counted : (left : Option ℕ) (a b c : CursorState) (k : ℕ) → left ≡ None → b.heads ≡ raised a.heads k
    → EndRead left b c → c.heads ≡ raised a.heads (k + 1)
ends_counted left a b c k unknown heads n =
    n.counted ∙ ap (λ (l : Option ℕ). raised b.heads (break_heads l)) unknown ∙ ap (λ (i : ℕ). raised i 1) heads
    ∙ raised-raised a.heads k 1

pub counts_end : (is_text : Bool) (left : Option ℕ) (a b c : CursorState) (bytes : List ℕ) → left ≡ None
    → Collects is_text left a b bytes → EndRead left b c → CountsAll is_text a c
counts_end is_text left a b c bytes unknown g n chunks rest e =
    let r = g.goes chunks rest e in
    let k = gathers_end (chunk is_text) no_nodes None left a b c (Collected a b bytes) g n chunks rest e in
    ends_counted left a b c (length chunks) unknown k.done.heads n

-- ---- looking up names, as long as one of them begins with the chunks

-- The look-up goes past the chunks so far: it counts one head for each, and then those that the other chunks
-- count.
pub record Sought (names : List (List ℕ)) (old now : CursorState) (bytes : List ℕ) (chunks : List (List ℕ)) : Type 0 where
  pub collected : Collected old now bytes chunks
  pub until : (others : List (List ℕ))
      → heads_until names [] (chunks ++ others) ≡ length chunks + heads_until names bytes others

-- The invariant of a loop over chunks that looks up names.
abbrev pub Seeks : Bool → List (List ℕ) → Option ℕ → CursorState → CursorState → List ℕ → Type 0
Seeks is_text names left old now bytes =
    Gathers (chunk is_text) no_nodes None left old now (Sought names old now bytes)

pub seeks_collects : (is_text : Bool) (names : List (List ℕ)) (left : Option ℕ) (a b : CursorState) (bytes : List ℕ)
    → Seeks is_text names left a b bytes → Collects is_text left a b bytes
seeks_collects is_text names left a b bytes g = record {
  moves = g.moves;
  spans = g.spans;
  goes = λ xs rest e.
      let r = g.goes xs rest e in
      record {
        before = r.before;
        done = r.done.collected;
        others = r.others;
        fuel = r.fuel;
        reads = r.reads;
        whole = r.whole;
        nodes = r.nodes;
        heads = r.heads;
      };
}

pub seeks_start : (is_text : Bool) (names : List (List ℕ)) (a : CursorState) (bytes : List ℕ) → IsInside a → bytes ≡ []
    → Seeks is_text names None a a bytes
seeks_start is_text names a bytes inside none =
    gathers_start (chunk is_text) no_nodes None a (Sought names a a bytes) inside (record {
      collected = record { joined = sym none; heads = refl };
      until = λ others. ap (λ (t : List ℕ). heads_until names t others) (sym none)
          ∙ sym (zero-add (heads_until names bytes others));
    })

pub seeks_on : (is_text : Bool) (names : List (List ℕ)) (left after : Option ℕ) (a b c d : CursorState) (h : Head)
    (bytes more s : List ℕ) → Seeks is_text names left a b bytes → ElementRead left after b c h
    → PieceRead is_text (chunk is_text h (ahead c)) c d s → more ≡ bytes ++ s → begins_one (bytes ++ s) names ≡ true
    → Seeks is_text names after a d more
seeks_on is_text names left after a b c d h bytes more s g n p pushed begins =
    gathers_on (chunk is_text) no_nodes None left after a b c d h (Sought names a b bytes) (Sought names a d more) g
    n (moves_passed c d p.passed) (spans_chunk is_text h c d s p) (λ before x u done one.
    let same = some_is (s, ahead d) (x, u) (sym p.reads ∙ one) in
    let x_is : s ≡ x = ap (λ (q : List ℕ × List ℕ). q.0) same in
    let rest_is : ahead d ≡ u = ap (λ (q : List ℕ × List ℕ). q.1) same in
    let more_is : bytes ++ x ≡ more = ap (λ (t : List ℕ). bytes ++ t) (sym x_is) ∙ sym pushed in
    let goes_on : begins_one (bytes ++ x) names ≡ true =
    ap (λ (t : List ℕ). begins_one (bytes ++ t) names) (sym x_is) ∙ begins in
    record {
      more = record {
        collected = collected_on a b c d bytes more s x before done.collected n.counted p.uncounted pushed x_is;
        until = λ others.
            let following : heads_until names bytes (x ∷ others) ≡ suc (heads_until names more others) =
            ap (λ (t : Bool). suc (cond t (heads_until names (bytes ++ x) others) 0)) goes_on
            ∙ ap (λ (t : List ℕ). suc (heads_until names t others)) more_is in
            ap (heads_until names []) (append_assoc before (x ∷ []) others) ∙ done.until (x ∷ others)
            ∙ omega (arith, following, length-append before (x ∷ []));
      };
      rest_is = rest_is;
      nodes = p.passed.nodes;
      heads = omega (arith, passed_heads c d p.passed, ap length rest_is);
    })

pub sought_no_step : (is_text : Bool) (names : List (List ℕ)) (left : Option ℕ) (a b c : CursorState) (bytes : List ℕ)
    → Seeks is_text names left a b bytes → NoHead (step_at left (ahead b)) b c → CountsSought is_text names a c
sought_no_step is_text names left a b c bytes g n chunks rest e =
    absurd (gathers_nothing (chunk is_text) no_nodes None left a b c (Sought names a b bytes) g n chunks rest e)

pub sought_no_chunk : (is_text : Bool) (names : List (List ℕ)) (left after : Option ℕ) (a b c d : CursorState) (h : Head)
    (bytes : List ℕ) → Seeks is_text names left a b bytes → ElementRead left after b c h
    → NoHead (chunk is_text h (ahead c)) c d → CountsSought is_text names a d
sought_no_chunk is_text names left after a b c d h bytes g n none chunks rest e =
    let r =
    gathers_here (chunk is_text) no_nodes None left after a b c h (Sought names a b bytes) g n chunks rest e in
    absurd (none_is_some (r.first, r.middle) (sym none.reads ∙ r.one))

-- no name begins with the chunks so far
pub sought_stops : (is_text : Bool) (names : List (List ℕ)) (left after : Option ℕ) (a b c d : CursorState) (h : Head)
    (bytes s : List ℕ) → Seeks is_text names left a b bytes → ElementRead left after b c h → PieceRead is_text
    (chunk is_text h (ahead c)) c d s → begins_one (bytes ++ s) names ≡ false → CountsSought is_text names a d
sought_stops is_text names left after a b c d h bytes s g n p none chunks rest e =
    let r =
    gathers_here (chunk is_text) no_nodes None left after a b c h (Sought names a b bytes) g n chunks rest e in
    let x_is : s ≡ r.first =
    ap (λ (q : List ℕ × List ℕ). q.0) (some_is (s, ahead d) (r.first, r.middle) (sym p.reads ∙ r.one)) in
    let stops : begins_one (bytes ++ r.first) names ≡ false =
    ap (λ (t : List ℕ). begins_one (bytes ++ t) names) (sym x_is) ∙ none in
    let following : heads_until names bytes (r.first ∷ r.others) ≡ 1 =
    ap (λ (t : Bool). suc (cond t (heads_until names (bytes ++ r.first) r.others) 0)) stops in
    let sum : length r.before + 1 ≡ heads_until names [] chunks =
    omega (arith, following, r.done.until (r.first ∷ r.others), ap (heads_until names []) r.whole) in
    p.uncounted ∙ n.counted ∙ ap (λ (i : ℕ). raised i 1) r.done.collected.heads
    ∙ raised-raised a.heads (length r.before) 1 ∙ ap (raised a.heads) sum

pub sought_end : (is_text : Bool) (names : List (List ℕ)) (left : Option ℕ) (a b c : CursorState) (bytes : List ℕ)
    → left ≡ None → Seeks is_text names left a b bytes → EndRead left b c → CountsSought is_text names a c
sought_end is_text names left a b c bytes unknown g n chunks rest e =
    let k = gathers_end (chunk is_text) no_nodes None left a b c (Sought names a b bytes) g n chunks rest e in
    let sum : length chunks + 1 ≡ heads_until names [] chunks =
    omega (arith, k.done.until [], ap (heads_until names []) (append-nil chunks)) in
    ends_counted left a b c (length chunks) unknown k.done.collected.heads n ∙ ap (raised a.heads) sum

-- ---- the total length of the chunks

-- a chunk's content is no longer than the bytes that were passed
pub chunk_passed : (is_text : Bool) (c d : CursorState) (h : Head) (s : List ℕ)
    → PieceRead is_text (chunk is_text h (ahead c)) c d s → length s + c.place ≤ d.place
chunk_passed is_text c d h s p =
    let long : length d.bytes ≡ length c.bytes = ap length p.passed.same in
    omega (
      arith,
      long,
      chunk_size is_text h (ahead c) s (ahead d) p.reads,
      p.passed.forward,
      p.passed.within,
      length-drop c.place c.bytes,
      length-drop d.place d.bytes,
    )

-- The invariant of a loop that skips chunks and adds their lengths.
pub record Measures (is_text : Bool) (left : Option ℕ) (old now : CursorState) (size : ℕ) : Type 0 where
  pub goes : Goes (chunk is_text) None left old now
  pub bytes : List ℕ
  pub size_is : length bytes ≡ size
  pub collects : Collects is_text left old now bytes
  pub fits : size + old.place ≤ now.place

-- if the chunks were skipped, so was the string
pub chunks_passed : (is_text : Bool) (a b : CursorState) → IsInside a
    → PassesOver 0 (list_at (chunk is_text) None (ahead a)) a b
    → PassesOver 0 (string_at is_text None (ahead a)) a b
chunks_passed is_text a b inside p = made_skipped 0 (list_at (chunk is_text) None (ahead a)) _ concat a b true
    (string_chunks is_text None (ahead a) refl) p

pub chunks_missed : (is_text : Bool) (a b : CursorState) → IsInside a → NoHead (list_at (chunk is_text) None (ahead a)) a b
    → NoHead (string_at is_text None (ahead a)) a b
chunks_missed is_text a b inside n = made_skipped 0 (list_at (chunk is_text) None (ahead a)) _ concat a b false
    (string_chunks is_text None (ahead a) refl) n

pub measures_start : (is_text : Bool) (a : CursorState) → IsInside a → Measures is_text None a a 0
measures_start is_text a inside = record {
  goes = goes_start (chunk is_text) None a inside;
  bytes = [];
  size_is = refl;
  collects = collects_start is_text a [] inside refl;
  fits = omega arith;
}

pub measures_on : (is_text : Bool) (left after : Option ℕ) (a b c d : CursorState) (h : Head) (size : ℕ) (s : List ℕ)
    → Measures is_text left a b size → ElementRead left after b c h
    → PieceRead is_text (chunk is_text h (ahead c)) c d s → Measures is_text after a d (size + length s)
measures_on is_text left after a b c d h size s m n p = record {
  goes = goes_on (chunk is_text) None left after a b c d h m.goes n
      (record { value = s; reads = p.reads; passed = p.passed; spans = spans_chunk is_text h c d s p });
  bytes = m.bytes ++ s;
  size_is = omega (arith, length-append m.bytes s, m.size_is);
  collects = collects_on is_text left after a b c d h m.bytes (m.bytes ++ s) s m.collects n p refl;
  fits = omega (arith, m.fits, n.passed.forward, chunk_passed is_text c d h s p);
}

pub measured : (is_text : Bool) (left : Option ℕ) (a b c : CursorState) (size : ℕ) → Measures is_text left a b size
    → EndRead left b c → IsLengthOf (string_at is_text None (ahead a)) size
measured is_text left a b c size m n s rest e =
    let cs = chunks_of is_text (ahead a) s rest e in
    let k = gathers_end (chunk is_text) no_nodes None left a b c (Collected a b m.bytes) m.collects n cs.chunks rest
    cs.reads in
    ap length (sym cs.joined ∙ k.done.joined) ∙ m.size_is
