-- Decoding the chunks of a borrowed string again: what they join to, and which of several names that is.
use Rattle.std.proofs.Common.{◌≡◌, ℕ, zero, suc, ◌+◌, ◌-◌, ◌^◌, ◌<◌, min, Bool, false, List, [], ◌∷◌, ◌++◌, length, Option, Some, None, Result, Ok, Err, refl, sym, ap, subst, ◌∙◌, append_assoc, arith}
use Rattle.std.proofs.Common.{Vec, Global}
use Rattle.std.specs.List.{concat}
use Rattle.std.proofs.lemmas.List.{append-nil}
use Rattle.passkey_cbor.specs.Reading.{chunk, step_at, list_at, string_at}
use Rattle.passkey_cbor.specs.CursorState.{CursorState, ahead, raised}
use Rattle.passkey_cbor.specs.Steps.{NoHead, ElementRead, EndRead, PieceRead, AreSought, CountsAll, CountsSome, CountsSought}
use Rattle.passkey_cbor.specs.Building.{IsNotEmpty, some_bytes, Makes}
use Rattle.passkey_cbor.specs.Inside.{IsAllowed, Content}
use Rattle.passkey_cbor.specs.Lent.{LooksAtAll, LooksAtSome, Copies}
use Rattle.passkey_cbor.specs.Names.{place_of, begins_one, heads_until, IsNameOf, LooksFor}
use Rattle.passkey_cbor.specs.declared.head.Head.{Head}
use Rattle.passkey_cbor.specs.declared.error.CborError.{CborError}
use Rattle.passkey_cbor.specs.declared.error.CborError.TheVariants as error
use Rattle.passkey_cbor.proofs.items.Binds.{some_is, none_is_some}
use Rattle.passkey_cbor.proofs.building.Gathering.{gathers_nothing, gathers_end, gathers_here}
use Rattle.passkey_cbor.proofs.items.Lists.{list_at_again}
use Rattle.passkey_cbor.proofs.strings.Strings.{AChunk, follows_chunk, string_again}
use Rattle.passkey_cbor.proofs.strings.Naming.{none_begins}
use Rattle.passkey_cbor.proofs.strings.Chunks.{concat-append, no_nodes, Collected, Collects, chunks_of}

-- ---- which of the names the chunks join to

pub no_step_sought :
    (is_text : Bool) (left : Option ℕ) (a b c : CursorState) (bytes : List ℕ) (names : List (List ℕ)) (place : Option ℕ)
    → Collects is_text left a b bytes → NoHead (step_at left (ahead b)) b c → AreSought is_text names a place
no_step_sought is_text left a b c bytes names place g n s rest e =
    let cs = chunks_of is_text (ahead a) s rest e in
    absurd
    (gathers_nothing (chunk is_text) no_nodes None left a b c (Collected a b bytes) g n cs.chunks rest cs.reads)

pub no_chunk_sought : (is_text : Bool) (left after : Option ℕ) (a b c d : CursorState) (h : Head) (bytes : List ℕ)
    (names : List (List ℕ)) (place : Option ℕ) → Collects is_text left a b bytes → ElementRead left after b c h
    → NoHead (chunk is_text h (ahead c)) c d → AreSought is_text names a place
no_chunk_sought is_text left after a b c d h bytes names place g n none s rest e =
    let cs = chunks_of is_text (ahead a) s rest e in
    let r = gathers_here (chunk is_text) no_nodes None left after a b c h (Collected a b bytes) g n cs.chunks rest
    cs.reads in
    absurd (none_is_some (r.first, r.middle) (sym none.reads ∙ r.one))

-- no name begins with the chunks so far
pub none_sought : (is_text : Bool) (left after : Option ℕ) (a b c d : CursorState) (h : Head) (bytes s : List ℕ)
    (names : List (List ℕ)) → Collects is_text left a b bytes → ElementRead left after b c h → PieceRead is_text
    (chunk is_text h (ahead c)) c d s → begins_one (bytes ++ s) names ≡ false → AreSought is_text names a None
none_sought is_text left after a b c d h bytes s names g n p none t rest e =
    let cs = chunks_of is_text (ahead a) t rest e in
    let r = gathers_here (chunk is_text) no_nodes None left after a b c h (Collected a b bytes) g n cs.chunks rest
    cs.reads in
    let x_is : s ≡ r.first =
    ap (λ (q : List ℕ × List ℕ). q.0) (some_is (s, ahead d) (r.first, r.middle) (sym p.reads ∙ r.one)) in
    let joined : concat cs.chunks ≡ concat r.before ++ (r.first ++ concat r.others) =
    ap concat r.whole ∙ concat-append r.before (r.first ∷ r.others) in
    let begins : (bytes ++ s) ++ concat r.others ≡ concat cs.chunks = append_assoc bytes s (concat r.others)
    ∙ ap (λ (u : List ℕ). u ++ (s ++ concat r.others)) (sym r.done.joined)
    ∙ ap (λ (u : List ℕ). concat r.before ++ (u ++ concat r.others)) x_is ∙ sym joined in
    sym (none_begins (bytes ++ s) names none (concat r.others))
    ∙ ap (λ (u : List ℕ). place_of u names) (begins ∙ cs.joined)

pub all_sought : (is_text : Bool) (left : Option ℕ) (a b c : CursorState) (bytes : List ℕ) (names : List (List ℕ))
    (place : Option ℕ) → place ≡ place_of bytes names → Collects is_text left a b bytes → EndRead left b c
    → AreSought is_text names a place
all_sought is_text left a b c bytes names place is g n s rest e =
    let cs = chunks_of is_text (ahead a) s rest e in
    let r =
    gathers_end (chunk is_text) no_nodes None left a b c (Collected a b bytes) g n cs.chunks rest cs.reads in
    is ∙ ap (λ (t : List ℕ). place_of t names) (sym r.done.joined ∙ cs.joined)

-- ---- a region in chunks

-- the string is decoded again
string_in : (is_text : Bool) (s region : List ℕ) (a : CursorState) → ahead a ≡ region → Content is_text None s region
    → string_at is_text None (ahead a) ≡ Some (s, [])
string_in is_text s region a at c =
    ap (string_at is_text None) (at ∙ sym (append-nil region)) ∙ string_again is_text None s region [] c

-- its chunks are decoded again
pub chunks_in : (is_text : Bool) (s region : List ℕ) (a : CursorState) → ahead a ≡ region
    → (c : Content is_text None s region) → list_at (chunk is_text) None (ahead a) ≡ Some (c.first.0, [])
chunks_in is_text s region a at c =
    ap (list_at (chunk is_text) None) (at ∙ sym (append-nil region))
    ∙ list_at_again (AChunk is_text) (chunk is_text) (follows_chunk is_text) None c.first.0 region []
    (record { front = c.front; back = c.back; first = c.first.1.1; second = c.second; whole = c.whole })

pub name_of_chunks : (is_text : Bool) (len : Option ℕ) (region : List ℕ) (names : List (List ℕ)) (a : CursorState)
    (place : Option ℕ) → len ≡ None → ahead a ≡ region → AreSought is_text names a place
    → IsNameOf is_text (record { len = len; bytes = region }) names place
name_of_chunks is_text (Some n) region names a place none at sought = absurd (none_is_some n (sym none))
name_of_chunks is_text None region names a place none at sought =
    λ s c. sought s [] (string_in is_text s region a at c)

pub copies_chunks : (is_text : Bool) (len : Option ℕ) (region : List ℕ) (a b : CursorState) (result : Result (Vec ℕ Global)
    CborError) → len ≡ None → ahead a ≡ region → Makes some_bytes 0 (string_at is_text None (ahead a)) a b result
    → Copies (λ v. v.items) is_text (record { len = len; bytes = region }) result
copies_chunks is_text (Some n) region a b result none at m = absurd (none_is_some n (sym none))
copies_chunks is_text None region a b (Ok v) none at m = λ s c. (m.made s [] (string_in is_text s region a at c)).0
copies_chunks is_text None region a b (Err error.DecodeFailed) none at m =
    λ s c. absurd (m.made s [] (string_in is_text s region a at c))
copies_chunks is_text None region a b (Err error.OutOfMemory) none at m =
    λ s c. not_empty s (m.made s [] (string_in is_text s region a at c)).0 where
      not_empty : (s : List ℕ) → IsNotEmpty s → 0 < length s
      not_empty [] some = absurd some
      not_empty (x ∷ s) some = omega arith
copies_chunks is_text None region a b (Err error.OutOfRangeIntegerValue) none at m =
    λ s c. absurd (m.made s [] (string_in is_text s region a at c))

-- adding counts that were taken by another cursor
add_counts : (n m k : ℕ) → 0 < k → m ≡ raised 0 k → min (n + m) (2 ^ 128 - 1) ≡ raised n k
add_counts n m zero some e = absurd (omega arith)
add_counts n m (suc k) some e = omega (arith, e)

-- the heads that a cursor over the chunks counted are added
counts_put : (len : Option ℕ) (region : List ℕ) (a b old new : CursorState) (k : ℕ) → 0 < k → a.heads ≡ 0
    → b.heads ≡ raised a.heads k → new ≡ record old { heads = min (old.heads + b.heads) (2 ^ 128 - 1) }
    → new.heads ≡ raised old.heads k
counts_put len region a b old new k some start counted is =
    ap (λ (w : CursorState). w.heads) is ∙ add_counts old.heads b.heads k some (counted ∙ ap (λ (n : ℕ). raised n k) start)

until_some : (names : List (List ℕ)) (joined : List ℕ) (chunks : List (List ℕ))
    → 0 < heads_until names joined chunks
until_some names joined [] = omega arith
until_some names joined (c ∷ chunks) = omega arith

-- the heads that were decoded to look up names
pub looks_for : (is_text : Bool) (names : List (List ℕ)) (len : Option ℕ) (region : List ℕ) (a b old new : CursorState)
    → len ≡ None → ahead a ≡ region → a.heads ≡ 0 → CountsSought is_text names a b → new ≡ record old {
      heads = min
          (old.heads + b.heads) (2 ^ 128 - 1);
    } → LooksFor is_text names (record { len = len; bytes = region }) old new
looks_for is_text names (Some n) region a b old new none at start counted is = absurd (none_is_some n (sym none))
looks_for is_text names None region a b old new none at start counted is = record {
  heads = λ s c. counts_put None region a b old new (heads_until names [] c.first.0) (until_some names [] c.first.0)
      start (counted c.first.0 [] (chunks_in is_text s region a at c)) is;
  place = ap (λ (w : CursorState). w.place) is;
  nodes = ap (λ (w : CursorState). w.nodes) is;
  bytes = ap (λ (w : CursorState). w.bytes) is;
}

pub looks_for_none : (is_text : Bool) (names : List (List ℕ)) (len : Option ℕ) (n : ℕ) (region : List ℕ) (a : CursorState)
    → len ≡ Some n → LooksFor is_text names (record { len = len; bytes = region }) a a
looks_for_none is_text names None n region a some = absurd (none_is_some n some)
looks_for_none is_text names (Some m) n region a some =
    record { heads = λ s c. refl; place = refl; nodes = refl; bytes = refl }

-- every head
pub looks_at_all : (is_text : Bool) (len : Option ℕ) (region : List ℕ) (a b old new : CursorState) → len ≡ None
    → ahead a ≡ region → a.heads ≡ 0 → CountsAll is_text a b → new ≡ record old {
      heads =
          min (old.heads + b.heads) (2 ^ 128 - 1);
    } → LooksAtAll is_text (record { len = len; bytes = region }) old new
looks_at_all is_text (Some n) region a b old new none at start counted is = absurd (none_is_some n (sym none))
looks_at_all is_text None region a b old new none at start counted is = record {
  heads = λ s c. counts_put None region a b old new (length c.first.0 + 1) (omega arith) start
      (counted c.first.0 [] (chunks_in is_text s region a at c)) is;
  place = ap (λ (w : CursorState). w.place) is;
  nodes = ap (λ (w : CursorState). w.nodes) is;
  bytes = ap (λ (w : CursorState). w.bytes) is;
}

pub looks_at_none : (is_text : Bool) (len : Option ℕ) (n : ℕ) (region : List ℕ) (a : CursorState) → len ≡ Some n
    → LooksAtAll is_text (record { len = len; bytes = region }) a a
looks_at_none is_text None n region a some = absurd (none_is_some n some)
looks_at_none is_text (Some m) n region a some =
    record { heads = λ s c. refl; place = refl; nodes = refl; bytes = refl }

-- some of the heads
pub looks_at_some : (is_text : Bool) (len : Option ℕ) (region : List ℕ) (a b old new : CursorState) → len ≡ None
    → ahead a ≡ region → a.heads ≡ 0 → CountsSome is_text a b → new ≡ record old {
      heads =
          min (old.heads + b.heads) (2 ^ 128 - 1);
    } → LooksAtSome is_text (record { len = len; bytes = region }) old new
looks_at_some is_text (Some n) region a b old new none at start counted is = absurd (none_is_some n (sym none))
looks_at_some is_text None region a b old new none at start counted is =
    let heads : new.heads ≡ min (old.heads + b.heads) (2 ^ 128 - 1) = ap (λ (w : CursorState). w.heads) is in
    record {
      least = omega (arith, heads, start, counted.least);
      heads = λ s c. omega (arith, heads, start, counted.heads c.first.0 [] (chunks_in is_text s region a at c));
      place = ap (λ (w : CursorState). w.place) is;
      nodes = ap (λ (w : CursorState). w.nodes) is;
      bytes = ap (λ (w : CursorState). w.bytes) is;
    }

pub looks_at_some_none : (is_text : Bool) (len : Option ℕ) (n : ℕ) (region : List ℕ) (a : CursorState) → len ≡ Some n
    → LooksAtSome is_text (record { len = len; bytes = region }) a a
looks_at_some_none is_text None n region a some = absurd (none_is_some n some)
looks_at_some_none is_text (Some m) n region a some =
    record { least = omega arith; heads = λ s c. omega arith; place = refl; nodes = refl; bytes = refl }

-- ---- a region in one piece

pub whole_region : (is_text : Bool) (len : Option ℕ) (n : ℕ) (region s : List ℕ) → len ≡ Some n
    → Content is_text len s region → (region ≡ s) × IsAllowed is_text region
whole_region is_text None n region s some c = absurd (none_is_some n some)
whole_region is_text (Some m) n region s some c = (c.1, subst (IsAllowed is_text) (sym c.1) c.0.1)
