-- Skipping what is decoded: one step after another, and the elements of a list.
use Rattle.std.proofs.Common.{◌≡◌, ℕ, zero, suc, ◌<◌, Bool, true, false, List, [], ◌∷◌, ◌++◌, length, Option, Some, None, refl, sym, ap, ◌∙◌, append_assoc, arith}
use Rattle.std.proofs.lemmas.List.{length-drop}
use Rattle.passkey_cbor.specs.HeadReading.{◌>>=◌, Read, head_at}
use Rattle.passkey_cbor.specs.Reading.{Reader, start, Step, end, element, step_at, after_step, list_by, list_at}
use Rattle.passkey_cbor.specs.CursorState.{CursorState, ahead, IsInside, Passed, Stopped}
use Rattle.passkey_cbor.specs.HeadCount.{content_len, Spans}
use Rattle.passkey_cbor.specs.Steps.{NoHead, HeadRead, ElementRead, EndRead, PassesOver, Skips}
use Rattle.passkey_cbor.specs.declared.head.Head.{Head}
use Rattle.passkey_cbor.proofs.items.Binds.{bind_at, bind_none}
use Rattle.passkey_cbor.proofs.heads.HeadCounts.{spans_none, spans_then, spans_head, spans_end, spans_element}

-- ---- where the cursor goes

pub passed_none : (a : CursorState) → IsInside a → Passed a a
passed_none a inside = record {
  same = refl;
  within = inside;
  forward = omega arith;
  rises = omega arith;
  heads = omega arith;
  nodes = refl;
}

pub passed_then : (a b c : CursorState) → Passed a b → Passed b c → Passed a c
passed_then a b c p q =
    record {
      same = q.same ∙ p.same;
      within = q.within;
      forward = omega (arith, p.forward, q.forward);
      rises = omega (arith, p.rises, q.rises);
      heads = omega (arith, p.heads, q.heads);
      nodes = q.nodes ∙ p.nodes;
    }

pub stopped_none : (a : CursorState) → IsInside a → Stopped a a
stopped_none a inside = record {
  same = refl;
  within = inside;
  forward = omega arith;
  rises = omega arith;
  heads = omega arith;
  nodes = refl;
}

pub stopped_then : (a b c : CursorState) → Passed a b → Stopped b c → Stopped a c
stopped_then a b c p q =
    let long : length b.bytes ≡ length a.bytes = ap length p.same in
    record {
      same = q.same ∙ p.same;
      within = q.within;
      forward = omega (arith, p.forward, q.forward);
      rises = omega (arith, p.rises, q.rises);
      heads = omega (
        arith,
        long,
        p.heads,
        p.within,
        p.forward,
        q.heads,
        length-drop a.place a.bytes,
        length-drop b.place b.bytes,
      );
      nodes = q.nodes ∙ p.nodes;
    }

-- ---- one reading after another

-- the same by another name
pub skips_as : {A : Type 0} (content : ℕ) (read whole : Read A) (a b : CursorState) (found : Bool) → whole ≡ read
    → Skips content read a b found → Skips content whole a b found
skips_as content read whole a b true e s =
    record { value = s.value; reads = e ∙ s.reads; passed = s.passed; spans = s.spans }
skips_as content read whole a b false e s = record { reads = e ∙ s.reads; stopped = s.stopped }

-- a head, and what follows it
pub skips_started : {A : Type 0} (read : Reader A) (h : Head) (a b c : CursorState) (found : Bool) → HeadRead a b h
    → Skips (content_len h) (read h (ahead b)) b c found → Skips 0 (start read (ahead a)) a c found
skips_started read h a b c true r s = record {
  value = s.value;
  reads = bind_at (head_at (ahead a)) (h, ahead b) (λ h. read h.0 h.1) r.reads ∙ s.reads;
  passed = passed_then a b c r.passed s.passed;
  spans = spans_head a b c h r s.spans;
}
skips_started read h a b c false r s = record {
  reads = bind_at (head_at (ahead a)) (h, ahead b) (λ h. read h.0 h.1) r.reads ∙ s.reads;
  stopped = stopped_then a b c r.passed s.stopped;
}

-- what was decoded becomes part of something else
pub skips_made : {A B : Type 0} (content : ℕ) (read : Read A) (make : A → B) (a b : CursorState) (found : Bool)
    → Skips content read a b found → Skips content (read >>= λ x. Some (make x.0, x.1)) a b found
skips_made content read make a b true s = record {
  value = make s.value;
  reads = bind_at read (s.value, ahead b) (λ x. Some (make x.0, x.1)) s.reads;
  passed = s.passed;
  spans = s.spans;
}
skips_made content read make a b false s =
    record { reads = bind_none read (λ x. Some (make x.0, x.1)) s.reads; stopped = s.stopped }

-- ---- the elements of a list

-- The invariant of a loop over them: those that were skipped, followed by those that are left, are all of them.
pub record Goes {A : Type 0} (read : Reader A) (all left : Option ℕ) (old now : CursorState) : Type 0 where
  pub passed : Passed old now
  pub spans : Spans 0 old now
  pub done : List A
  pub fuel : ℕ
  pub enough : length (ahead now) < fuel
  pub same : list_at read all (ahead old) ≡ (list_by read fuel left (ahead now) >>= λ xs. Some (done ++ xs.0, xs.1))

after_none : {A : Type 0} (read : Read (List A)) → read ≡ (read >>= λ xs. Some ([] ++ xs.0, xs.1))
after_none None = refl
after_none (Some xs) = refl

pub goes_start : {A : Type 0} (read : Reader A) (left : Option ℕ) (a : CursorState) → IsInside a → Goes read left left a a
goes_start read left a inside = record {
  passed = passed_none a inside;
  spans = spans_none a;
  done = [];
  fuel = suc (length (ahead a));
  enough = omega arith;
  same = after_none (list_at read left (ahead a));
}

pub list_step : {A : Type 0} (read : Reader A) (fuel : ℕ) (left : Option ℕ) (bytes : List ℕ)
    → list_by read (suc fuel) left bytes ≡ (step_at left bytes >>= after_step read (list_by read fuel))
unfolding list_by
list_step read fuel left bytes = refl

-- one more step of a list
list_stepped : {A : Type 0} (read : Reader A) (fuel : ℕ) (left : Option ℕ) (bytes : List ℕ) (s : Step)
    → step_at left bytes ≡ Some s → list_by read (suc fuel) left bytes ≡ after_step read (list_by read fuel) s
list_stepped read fuel left bytes s e =
    list_step read fuel left bytes ∙ bind_at (step_at left bytes) s (after_step read (list_by read fuel)) e

list_stuck : {A : Type 0} (read : Reader A) (fuel : ℕ) (left : Option ℕ) (bytes : List ℕ) → 0 < fuel
    → step_at left bytes ≡ None → list_by read fuel left bytes ≡ None
list_stuck read zero left bytes some e = absurd (omega arith)
list_stuck read (suc fuel) left bytes some e =
    list_step read fuel left bytes ∙ bind_none (step_at left bytes) (after_step read (list_by read fuel)) e

pub goes_end : {A : Type 0} (read : Reader A) (all left : Option ℕ) (a b c : CursorState) → Goes read all left a b
    → EndRead left b c → PassesOver 0 (list_at read all (ahead a)) a c
goes_end read all left a b c g r = ended g.fuel g.enough g.same where
  ended : (fuel : ℕ) → length (ahead b) < fuel → list_at read all (ahead a) ≡ (list_by read fuel left (ahead b)
      >>= λ xs. Some (g.done ++ xs.0, xs.1)) → PassesOver 0 (list_at read all (ahead a)) a c
  ended zero enough same = absurd (omega arith)
  ended (suc fuel) enough same = record {
    value = g.done ++ [];
    reads = same ∙ bind_at (list_by read (suc fuel) left (ahead b)) ([], ahead c)
        (λ xs. Some (g.done ++ xs.0, xs.1)) (list_stepped read fuel left (ahead b) (end (ahead c)) r.reads);
    passed = passed_then a b c g.passed r.passed;
    spans = spans_then 0 a b c g.spans (spans_end left b c r);
  }

pub goes_malformed : {A : Type 0} (read : Reader A) (all left : Option ℕ) (a b c : CursorState) → Goes read all left a b
    → NoHead (step_at left (ahead b)) b c → NoHead (list_at read all (ahead a)) a c
goes_malformed read all left a b c g r = record {
  reads = g.same ∙ bind_none (list_by read g.fuel left (ahead b)) (λ xs. Some (g.done ++ xs.0, xs.1))
      (list_stuck read g.fuel left (ahead b) (omega (arith, g.enough)) r.reads);
  stopped = stopped_then a b c g.passed r.stopped;
}

pub goes_stuck : {A : Type 0} (read : Reader A) (all left after : Option ℕ) (a b c d : CursorState) (h : Head)
    → Goes read all left a b → ElementRead left after b c h → NoHead (read h (ahead c)) c d
    → NoHead (list_at read all (ahead a)) a d
goes_stuck read all left after a b c d h g r s = record {
  reads = g.same
      ∙ bind_none (list_by read g.fuel left (ahead b)) (λ xs. Some (g.done ++ xs.0, xs.1)) (stuck g.fuel g.enough);
  stopped = stopped_then a b d g.passed (stopped_then b c d r.passed s.stopped);
} where
  stuck : (fuel : ℕ) → length (ahead b) < fuel → list_by read fuel left (ahead b) ≡ None
  stuck zero enough = absurd (omega arith)
  stuck (suc fuel) enough =
      list_stepped read fuel left (ahead b) (element after h (ahead c)) r.reads ∙ bind_none (read h (ahead c))
      (λ x. list_by read fuel after x.1 >>= λ xs. Some (x.0 ∷ xs.0, xs.1)) s.reads

abbrev before : {A : Type 0} → List A → Read (List A) → Read (List A)
before {A} done read = read >>= λ xs. let all : List A × List ℕ = (done ++ xs.0, xs.1) in Some all

regrouped : {A : Type 0} (done : List A) (x : A) (read : Read (List A)) → before done
    (read >>= λ xs. let more : List A × List ℕ = (x ∷ xs.0, xs.1) in Some more) ≡ before (done ++ x ∷ []) read
regrouped done x None = refl
regrouped {A = A} done x (Some xs) = ap (λ (ys : List A). let read : List A × List ℕ = (ys, xs.1) in Some read)
    (sym (append_assoc done (x ∷ []) xs.0))

pub goes_on : {A : Type 0} (read : Reader A) (all left after : Option ℕ) (a b c d : CursorState) (h : Head) → Goes read all
    left a b → ElementRead left after b c h → PassesOver (content_len h) (read h (ahead c)) c d
    → Goes read all after a d
goes_on read all left after a b c d h g r s = more g.fuel g.enough g.same where
  more : (fuel : ℕ) → length (ahead b) < fuel → list_at read all (ahead a)
      ≡ (list_by read fuel left (ahead b) >>= λ xs. Some (g.done ++ xs.0, xs.1)) → Goes read all after a d
  more zero enough same = absurd (omega arith)
  more (suc fuel) enough same =
      let one : list_by read (suc fuel) left (ahead b)
      ≡ (list_by read fuel after (ahead d) >>= λ xs. Some (s.value ∷ xs.0, xs.1)) =
      list_stepped read fuel left (ahead b) (element after h (ahead c)) r.reads ∙ bind_at (read h (ahead c))
      (s.value, ahead d) (λ x. list_by read fuel after x.1 >>= λ xs. Some (x.0 ∷ xs.0, xs.1)) s.reads in
      let to_c : length c.bytes ≡ length b.bytes = ap length r.passed.same in
      let to_d : length d.bytes ≡ length c.bytes = ap length s.passed.same in
      record {
        passed = passed_then a b d g.passed (passed_then b c d r.passed s.passed);
        spans = spans_then 0 a b d g.spans (spans_element left after b c d h r s.spans);
        done = g.done ++ s.value ∷ [];
        fuel = fuel;
        enough = omega (
          arith,
          enough,
          to_c,
          to_d,
          r.further,
          r.passed.within,
          s.passed.forward,
          s.passed.within,
          length-drop b.place b.bytes,
          length-drop d.place d.bytes,
        );
        same = same ∙ ap (λ o. o >>= λ xs. Some (g.done ++ xs.0, xs.1)) one
            ∙ regrouped g.done s.value (list_by read fuel after (ahead d));
      }

-- ---- an element from its first head on, in a list of known length

abbrev pub after_one : {A : Type 0} → Reader A → ℕ → ℕ → A × List ℕ → Read (List A)
after_one read fuel n x = list_by read fuel (Some n) x.1 >>= λ xs. Some (x.0 ∷ xs.0, xs.1)

begun : {A : Type 0} (read : Reader A) (fuel n : ℕ) (o : Read Head)
    → ((o >>= λ h. Some (element (Some n) h.0 h.1)) >>= after_step read (list_by read fuel))
    ≡ ((o >>= λ h. read h.0 h.1) >>= after_one read fuel n)
begun read fuel n None = refl
begun read fuel n (Some h) = refl

pub list_begun : {A : Type 0} (read : Reader A) (fuel n : ℕ) (bytes : List ℕ)
    → list_by read (suc fuel) (Some (suc n)) bytes ≡ (start read bytes >>= after_one read fuel n)
unfolding step_at
list_begun read fuel n bytes = list_step read fuel (Some (suc n)) bytes ∙ begun read fuel n (head_at bytes)
