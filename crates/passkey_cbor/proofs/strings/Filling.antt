-- Copying the chunks of a byte string into a slice.
use Rattle.std.proofs.Common.{◌≡◌, ℕ, ◌+◌, ◌≤◌, false, List, [], ◌∷◌, ◌++◌, length, take, drop, Option, Some, None, sym, ap, ◌∙◌, append_assoc, arith}
use Rattle.std.specs.List.{concat}
use Rattle.std.proofs.lemmas.List.{length-append, length-take, length-drop, take_at, take_all}
use Rattle.passkey_cbor.specs.Inside.{Content}
use Rattle.passkey_cbor.specs.Reading.{chunk, step_at, list_at}
use Rattle.passkey_cbor.specs.Steps.{NoHead, ElementRead, EndRead, PieceRead}
use Rattle.passkey_cbor.specs.CursorState.{CursorState, ahead}
use Rattle.passkey_cbor.specs.declared.head.Head.{Head}
use Rattle.passkey_cbor.proofs.items.Binds.{some_is, none_is_some}
use Rattle.passkey_cbor.proofs.building.Gathering.{Here, gathers_nothing, gathers_here, gathers_end}
use Rattle.passkey_cbor.proofs.strings.Chunks.{no_nodes, Collected, Collects, concat-append}
use Rattle.passkey_cbor.proofs.strings.Joining.{chunks_in}

-- the region of a byte string in chunks, and a cursor's position in it
module _ (region : List ℕ) (a : CursorState) (at_start : ahead a ≡ region) (s : List ℕ) (c : Content false None s region)
    (left : Option ℕ) (b : CursorState) (bytes : List ℕ) (g : Collects false left a b bytes) where
  chunks_there : list_at (chunk false) None (ahead a) ≡ Some (c.first.0, [])
  chunks_there = chunks_in false s region a at_start c

  -- a well-formed step follows
  pub step_there : (d : CursorState) → NoHead (step_at left (ahead b)) b d → ⊥
  step_there d n =
      gathers_nothing (chunk false) no_nodes None left a b d (Collected a b bytes) g n c.first.0 [] chunks_there

  chunk_here : (after : Option ℕ) (d : CursorState) (h : Head) → ElementRead left after b d h
      → Here (chunk false) no_nodes after a d h (Collected a b bytes) c.first.0 []
  chunk_here after d h n = gathers_here (chunk false) no_nodes None left after a b d h (Collected a b bytes) g n
      c.first.0 [] chunks_there

  -- after a chunk's head, its content follows
  pub chunk_there : (after : Option ℕ) (d e : CursorState) (h : Head) → ElementRead left after b d h
      → NoHead (chunk false h (ahead d)) d e → ⊥
  chunk_there after d e h n none = let r =
      chunk_here after d h n in none_is_some (r.first, r.middle) (sym none.reads ∙ r.one)

  -- the chunk is no longer than what is left of the string
  pub chunk_fits : (after : Option ℕ) (d e : CursorState) (h : Head) (t : List ℕ) → ElementRead left after b d h
      → PieceRead false (chunk false h (ahead d)) d e t → length bytes + length t ≤ length s
  chunk_fits after d e h t n p =
      let r = chunk_here after d h n in
      let t_is : t ≡ r.first =
      ap (λ (q : List ℕ × List ℕ). q.0) (some_is (t, ahead e) (r.first, r.middle) (sym p.reads ∙ r.one)) in
      let joined : s ≡ concat r.before ++ (r.first ++ concat r.others) =
      sym c.first.1.0 ∙ ap concat r.whole ∙ concat-append r.before (r.first ∷ r.others) in
      omega (
        arith,
        ap length joined,
        length-append (concat r.before) (r.first ++ concat r.others),
        length-append r.first (concat r.others),
        ap length t_is,
        ap length r.done.joined,
      )

  -- all chunks were copied
  pub all_there : (d : CursorState) → EndRead left b d → s ≡ bytes
  all_there d n = sym c.first.1.0 ∙ (gathers_end (chunk false) no_nodes None left a b d (Collected a b bytes) g n
      c.first.0 [] chunks_there).done.joined

-- a piece copied after others
pub put_after : (at : ℕ) (old new piece : List ℕ) → at ≤ length old → new
    ≡ take at old ++ (piece ++ drop (at + length piece) old) → take (at + length piece) new ≡ take at old ++ piece
put_after at old new piece within is =
    let size : length (take at old ++ piece) ≡ at + length piece =
    omega (arith, length-append (take at old) piece, length-take at old, within) in
    ap (take (at + length piece)) (is ∙ sym (append_assoc (take at old) piece (drop (at + length piece) old)))
    ∙ take_at (take at old ++ piece) (drop (at + length piece) old) (at + length piece) size

pub put_long : (at : ℕ) (old new piece : List ℕ) → at + length piece ≤ length old
    → new ≡ take at old ++ (piece ++ drop (at + length piece) old) → length new ≡ length old
put_long at old new piece fits is =
    omega (
      arith,
      fits,
      ap length is,
      length-append (take at old) (piece ++ drop (at + length piece) old),
      length-append piece (drop (at + length piece) old),
      length-take at old,
      length-drop (at + length piece) old,
    )

-- bytes that fill the slice are the slice
pub fills : (at : ℕ) (into s : List ℕ) → s ≡ take at into → length s ≡ length into → at ≤ length into → s ≡ into
fills at into s is size within =
    let all : length into ≤ at = omega (arith, ap length is, length-take at into, size, within) in
    is ∙ take_all at into all
