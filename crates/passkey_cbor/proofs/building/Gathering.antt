-- Building values from what is decoded: one after the other, and the elements of a list.
use Rattle.std.proofs.Common.{◌≡◌, ℕ, zero, suc, ◌+◌, ◌<◌, ◌≤◌, List, [], ◌∷◌, ◌++◌, length, map, Option, Some, None, Result, Ok, Err, refl, sym, ap, subst, ◌∙◌, append_assoc, arith}
use Rattle.std.proofs.Common.{Vec, Global}
use Rattle.std.specs.Prelude.{OnOk}
use Rattle.std.proofs.lemmas.List.{append-nil, length-drop, map-append}
use Rattle.passkey_cbor.specs.HeadReading.{◌>>=◌, Read}
use Rattle.passkey_cbor.specs.Reading.{Reader, start, Step, end, element, step_at, after_step, list_by, list_at}
use Rattle.passkey_cbor.specs.CursorState.{CursorState, ahead, raised, IsInside, Passed, Stopped, MovesForward}
use Rattle.passkey_cbor.specs.HeadCount.{content_len, Spans}
use Rattle.passkey_cbor.specs.Steps.{NoHead, HeadRead, ElementRead, EndRead, ReadsHead}
use Rattle.passkey_cbor.specs.Building.{IsNotEmpty, total, Making, each_of, Made, Makes}
use Rattle.passkey_cbor.specs.declared.head.Head.{Head}
use Rattle.passkey_cbor.specs.declared.error.CborError.{CborError}
use Rattle.passkey_cbor.specs.declared.error.CborError.TheVariants as error
use Rattle.passkey_cbor.proofs.items.Binds.{some_is, none_is_some, bind_some}
use Rattle.passkey_cbor.proofs.heads.HeadCounts.{spans_none, spans_then, spans_head, spans_element, spans_end}
use Rattle.passkey_cbor.proofs.heads.Raised.{raised-le, raised-raised}
use Rattle.passkey_cbor.proofs.items.Shrinking.{Shrinks, list_left}
use Rattle.passkey_cbor.proofs.skipping.Skipping.{after_one, list_begun}
use Rattle.std.specs.Option.{IsSomeAnd}

-- ---- where the cursor goes

pub moves_none : (a : CursorState) → IsInside a → MovesForward a a
moves_none a inside =
    record { same = refl; within = inside; forward = omega arith; heads = omega arith; nodes = omega arith }

pub moves_passed : (a b : CursorState) → Passed a b → MovesForward a b
moves_passed a b p = record {
  same = p.same;
  within = p.within;
  forward = p.forward;
  heads = p.rises;
  nodes = omega (arith, p.nodes);
}

pub moves_stopped : (a b : CursorState) → Stopped a b → MovesForward a b
moves_stopped a b p = record {
  same = p.same;
  within = p.within;
  forward = p.forward;
  heads = p.rises;
  nodes = omega (arith, p.nodes);
}

pub moves_then : (a b c : CursorState) → MovesForward a b → MovesForward b c → MovesForward a c
moves_then a b c p q = record {
  same = q.same ∙ p.same;
  within = q.within;
  forward = omega (arith, p.forward, q.forward);
  heads = omega (arith, p.heads, q.heads);
  nodes = omega (arith, p.nodes, q.nodes);
}

-- the cursor went on, and back to where it began
pub moves_back : (a b c : CursorState) → IsInside a → MovesForward a b → c ≡ record b { place = a.place } → MovesForward a c
moves_back a b c inside p e = record {
  same = ap (λ (w : CursorState). w.bytes) e ∙ p.same;
  within =
      omega (arith, inside, ap length p.same, ap (λ (w : CursorState). length w.bytes) e, ap (λ (w : CursorState). w.place) e);
  forward = omega (arith, ap (λ (w : CursorState). w.place) e);
  heads = omega (arith, p.heads, ap (λ (w : CursorState). w.heads) e);
  nodes = omega (arith, p.nodes, ap (λ (w : CursorState). w.nodes) e);
}

pub moves_head : (a b : CursorState) (found : Option Head) → ReadsHead a b found → MovesForward a b
moves_head a b (Some h) r = moves_passed a b r.passed
moves_head a b None r = moves_stopped a b r.stopped

-- at most one head for each byte that was passed
pub passed_heads : (a b : CursorState) → Passed a b → b.heads + length (ahead b) ≤ a.heads + length (ahead a)
passed_heads a b p =
    let long : length b.bytes ≡ length a.bytes = ap length p.same in
    omega (arith, long, p.within, p.forward, p.heads, length-drop a.place a.bytes, length-drop b.place b.bytes)

-- ---- one reading after another

-- what holds anyway also holds after a success
pub on_ok : {T E P : Type 0} (r : Result T E) → P → OnOk r P
on_ok (Ok x) h = h
on_ok (Err e) h = tt

-- what follows from what holds after a success
pub ok_then : {T E P Q : Type 0} (r : Result T E) → (P → Q) → OnOk r P → OnOk r Q
ok_then (Ok x) follows h = follows h
ok_then (Err e) follows h = tt

-- nothing is decoded, so there is nothing to prove
pub makes_nothing : {V X : Type 0} {content : ℕ} (m : Making V X) (read : Read X) (a b : CursorState) (e : CborError)
    → MovesForward a b → read ≡ None → Makes m content read a b (Err e)
makes_nothing m read a b e moves none = record {
  moves = moves;
  spans = tt;
  made = λ x rest f. absurd (none_is_some (x, rest) (sym none ∙ f));
  heads = λ x rest f. absurd (none_is_some (x, rest) (sym none ∙ f));
}

-- a value is decoded and built
pub makes_one : {V X : Type 0} {content : ℕ} (m : Making V X) (read : Read X) (x : X) (a b : CursorState) (v : V)
    → Passed a b → Spans content a b → read ≡ Some (x, ahead b) → m.view v ≡ x → m.size x ≡ 0
    → Makes m content read a b (Ok v)
makes_one {X = X} m read x a b v p s e same none = record {
  moves = moves_passed a b p;
  spans = s;
  made = λ y rest f.
      let q = some_is (x, ahead b) (y, rest) (sym e ∙ f) in
      let x_is : x ≡ y = ap (λ (q : X × List ℕ). q.0) q in
      (same ∙ x_is, ap (λ (q : X × List ℕ). q.1) q, p.nodes ∙ ap (raised a.nodes) (sym none ∙ ap m.size x_is));
  heads = λ y rest f. omega
      (arith, passed_heads a b p, ap (λ (q : X × List ℕ). length q.1) (some_is (x, ahead b) (y, rest) (sym e ∙ f)));
}

-- if a part fails, so does the whole
pub fails_within : {V W X Y : Type 0} (m : Making V X) (all : Making W Y) (x : X) (y : Y) (rest rest_all : List ℕ)
    (old mid now : CursorState) (e : CborError) → (m.Takes x → all.Takes y) → mid.nodes + m.size x ≤ old.nodes + all.size y
    → Made m x rest mid now (Err e) → Made all y rest_all old now (Err e)
fails_within m all x y rest rest_all old mid now error.OutOfMemory takes size k =
    (takes k.0, omega (arith, k.1, size))
fails_within m all x y rest rest_all old mid now _ takes size k = k

-- nothing was built before
made_from : {V X : Type 0} (m : Making V X) (x : X) (rest : List ℕ) (a b c : CursorState) (result : Result V CborError)
    → b.nodes ≡ a.nodes → Made m x rest b c result → Made m x rest a c result
made_from m x rest a b c (Ok v) e k = (k.0, k.1, k.2 ∙ ap (λ (n : ℕ). raised n (m.size x)) e)
made_from m x rest a b c (Err f) e k = fails_within m m x x rest rest a b c f (λ t. t) (omega (arith, e)) k

-- a head was decoded before
pub makes_after : {V X : Type 0} (m : Making V X) (read whole : Read X) (a b c : CursorState) (h : Head)
    (result : Result V CborError) → HeadRead a b h → whole ≡ read → Makes m (content_len h) read b c result
    → Makes m 0 whole a c result
makes_after m read whole a b c h result r e k = record {
  moves = moves_then a b c (moves_passed a b r.passed) k.moves;
  spans = ok_then result (spans_head a b c h r) k.spans;
  made = λ x rest f. made_from m x rest a b c result r.passed.nodes (k.made x rest (sym e ∙ f));
  heads = λ x rest f. omega (arith, passed_heads a b r.passed, k.heads x rest (sym e ∙ f));
}

-- what was decoded, before it becomes part of something else
pub record Put {X Y : Type 0} (make : X → Y) (read : Read X) (y : Y) (rest : List ℕ) : Type 0 where
  pub part : X
  pub reads : read ≡ Some (part, rest)
  pub is : make part ≡ y

put_from : {X Y : Type 0} (make : X → Y) (read : Read X) (whole : Read Y) → whole
    ≡ (read >>= λ x. Some (make x.0, x.1)) → (y : Y) (rest : List ℕ) → whole ≡ Some (y, rest) → Put make read y rest
put_from {X = X} {Y = Y} make read whole e y rest f =
    let x = bind_some read (λ x. Some (make x.0, x.1)) (y, rest) (sym e ∙ f) in
    let p = some_is (make x.0.0, x.0.1) (y, rest) x.2 in
    record {
      part = x.0.0;
      reads = x.1 ∙ ap (λ (q : Y × List ℕ). Some (x.0.0, q.1)) p;
      is = ap (λ (q : Y × List ℕ). q.0) p;
    }

-- what was built becomes part of something else
pub makes_put : {V W X Y : Type 0} {content : ℕ} (m : Making V X) (all : Making W Y) (make : X → Y) (read : Read X)
    (whole : Read Y) (a b : CursorState) (v : V) (w : W)
    → whole ≡ (read >>= λ x. Some (make x.0, x.1)) → all.view w ≡ make (m.view v)
    → ((x : X) → all.size (make x) ≡ m.size x) → Makes m content read a b (Ok v)
    → Makes all content whole a b (Ok w)
makes_put m all make read whole a b v w e same size k = record {
  moves = k.moves;
  spans = k.spans;
  made = λ y rest f.
      let p = put_from make read whole e y rest f in
      let q = k.made p.part rest p.reads in
      (same ∙ ap make q.0 ∙ p.is, q.1, q.2 ∙ ap (raised a.nodes) (sym (size p.part) ∙ ap all.size p.is));
  heads = λ y rest f. let p = put_from make read whole e y rest f in k.heads p.part rest p.reads;
}

-- building a part of something else failed
pub fails_put : {V W X Y : Type 0} {content : ℕ} (m : Making V X) (all : Making W Y) (make : X → Y) (read : Read X)
    (whole : Read Y) (a b : CursorState) (e : CborError)
    → whole ≡ (read >>= λ x. Some (make x.0, x.1)) → ((x : X) → m.Takes x → all.Takes (make x))
    → ((x : X) → all.size (make x) ≡ m.size x) → Makes m content read a b (Err e)
    → Makes all content whole a b (Err e)
fails_put m all make read whole a b e is takes size k = record {
  moves = k.moves;
  spans = tt;
  made = λ y rest f.
      let p = put_from make read whole is y rest f in
      fails_within m all p.part y rest rest a a b e (λ t. subst all.Takes p.is (takes p.part t))
      (omega (arith, size p.part, ap all.size p.is)) (k.made p.part rest p.reads);
  heads = λ y rest f. let p = put_from make read whole is y rest f in k.heads p.part rest p.reads;
}

-- the part was built, but allocating the whole failed
pub full_put : {V W X Y : Type 0} {content : ℕ} (m : Making V X) (all : Making W Y) (make : X → Y) (read : Read X)
    (whole : Read Y) (a b : CursorState) (v : V)
    → whole ≡ (read >>= λ x. Some (make x.0, x.1)) → ((x : X) → all.Takes (make x))
    → ((x : X) → all.size (make x) ≡ m.size x) → Makes m content read a b (Ok v)
    → Makes all content whole a b (Err error.OutOfMemory)
full_put m all make read whole a b v is takes size k = record {
  moves = k.moves;
  spans = tt;
  made = λ y rest f.
      let p = put_from make read whole is y rest f in
      let q = k.made p.part rest p.reads in (
        subst all.Takes p.is (takes p.part),
        omega (arith, q.2, raised-le a.nodes (m.size p.part), size p.part, ap all.size p.is),
      );
  heads = λ y rest f. let p = put_from make read whole is y rest f in k.heads p.part rest p.reads;
}

-- ---- two readings combined

abbrev pub together : {X Y : Type 0} → Read X → (List ℕ → Read Y) → Read (X × Y)
together {X} {Y} read next = read >>= λ x. next x.1 >>= λ y. let both : X × Y = (x.0, y.0) in Some (both, y.1)

pub record Two {X Y : Type 0} (read : Read X) (next : List ℕ → Read Y) (p : X × Y) (rest : List ℕ) : Type 0 where
  pub middle : List ℕ
  pub one : read ≡ Some (p.0, middle)
  pub two : next middle ≡ Some (p.1, rest)

two_from : {X Y : Type 0} (read : Read X) (next : List ℕ → Read Y) (p : X × Y) (rest : List ℕ)
    → together read next ≡ Some (p, rest) → Two read next p rest
two_from {X = X} {Y = Y} read next p rest e =
    let x = bind_some read (λ x. next x.1 >>= λ y. let both : X × Y = (x.0, y.0) in Some (both, y.1)) (p, rest) e in
    let y = bind_some (next x.0.1) (λ y. let both : X × Y = (x.0.0, y.0) in Some (both, y.1)) (p, rest) x.2 in
    let q = some_is (let both : X × Y = (x.0.0, y.0.0) in (both, y.0.1)) (p, rest) y.2 in
    record {
      middle = x.0.1;
      one = x.1 ∙ ap (λ (r : (X × Y) × List ℕ). Some (r.0.0, x.0.1)) q;
      two = y.1 ∙ ap (λ (r : (X × Y) × List ℕ). Some (r.0.1, r.1)) q;
    }

-- both were built
pub makes_both : {V W X Y : Type 0} {content : ℕ} (m : Making V X) (n : Making W Y) (both : Making (V × W) (X × Y))
    (read : Read X) (next : List ℕ → Read Y) (a b c : CursorState) (v : V) (w : W)
    → both.view (v, w) ≡ (m.view v, n.view w) → ((p : X × Y) → both.size p ≡ m.size p.0 + n.size p.1)
    → Makes m content read a b (Ok v) → Makes n 0 (next (ahead b)) b c (Ok w)
    → Makes both content (together read next) a c (Ok (v, w))
makes_both {X = X} {Y = Y} {content = content} m n both read next a b c v w same size k l = record {
  moves = moves_then a b c k.moves l.moves;
  spans = spans_then content a b c k.spans l.spans;
  made = λ p rest f.
      let t = two_from read next p rest f in
      let q = k.made p.0 t.middle t.one in
      let r = l.made p.1 rest (ap next q.1 ∙ t.two) in
      let view_is : both.view (v, w) ≡ p = same ∙ ap (λ (x : X). let made : X × Y = (x, n.view w) in made) q.0
      ∙ ap (λ (y : Y). let made : X × Y = (p.0, y) in made) r.0 in (
        view_is,
        r.1,
        r.2 ∙ ap (λ (i : ℕ). raised i (n.size p.1)) q.2
            ∙ raised-raised a.nodes (m.size p.0) (n.size p.1) ∙ ap (raised a.nodes) (sym (size p)),
      );
  heads = λ p rest f.
      let t = two_from read next p rest f in
      let q = k.made p.0 t.middle t.one in
      omega (arith, k.heads p.0 t.middle t.one, l.heads p.1 rest (ap next q.1 ∙ t.two), ap length q.1);
}

-- the first was not built
pub fails_first : {V W X Y : Type 0} {content : ℕ} (m : Making V X) (both : Making W (X × Y)) (read : Read X)
    (next : List ℕ → Read Y) (a b : CursorState) (e : CborError) → ((p : X × Y) → both.Takes p)
    → ((p : X × Y) → m.size p.0 ≤ both.size p)
    → ((u : List ℕ) (y : Y × List ℕ) → next u ≡ Some y → length y.1 ≤ length u)
    → Makes m content read a b (Err e) → Makes both content (together read next) a b (Err e)
fails_first m both read next a b e takes size shrinks k = record {
  moves = k.moves;
  spans = tt;
  made = λ p rest f.
      let t = two_from read next p rest f in
      fails_within m both p.0 p t.middle rest a a b e (λ s. takes p) (omega (arith, size p))
      (k.made p.0 t.middle t.one);
  heads = λ p rest f.
      let t = two_from read next p rest f in
      omega (arith, k.heads p.0 t.middle t.one, shrinks t.middle (p.1, rest) t.two);
}

-- the second was not built
pub fails_second : {V W T X Y : Type 0} {content : ℕ} (m : Making V X) (n : Making T Y) (both : Making W (X × Y))
    (read : Read X) (next : List ℕ → Read Y) (a b c : CursorState) (v : V) (e : CborError)
    → ((p : X × Y) → both.Takes p) → ((p : X × Y) → both.size p ≡ m.size p.0 + n.size p.1)
    → Makes m content read a b (Ok v) → Makes n 0 (next (ahead b)) b c (Err e)
    → Makes both content (together read next) a c (Err e)
fails_second m n both read next a b c v e takes size k l = record {
  moves = moves_then a b c k.moves l.moves;
  spans = tt;
  made = λ p rest f.
      let t = two_from read next p rest f in
      let q = k.made p.0 t.middle t.one in
      fails_within n both p.1 p rest rest a b c e (λ s. takes p)
      (omega (arith, size p, q.2, raised-le a.nodes (m.size p.0))) (l.made p.1 rest (ap next q.1 ∙ t.two));
  heads = λ p rest f.
      let t = two_from read next p rest f in
      let q = k.made p.0 t.middle t.one in
      omega (arith, k.heads p.0 t.middle t.one, l.heads p.1 rest (ap next q.1 ∙ t.two), ap length q.1);
}

-- ---- the elements of a list

pub total-append : {X : Type 0} (size : X → ℕ) (xs ys : List X)
    → total size (xs ++ ys) ≡ total size xs + total size ys
total-append size [] ys = omega arith
total-append size (x ∷ xs) ys = omega (arith, total-append size xs ys)

-- The elements built so far, followed by those still to be decoded, are all of them.
pub record Remaining {X : Type 0} (read : Reader X) (size : X → ℕ) (left : Option ℕ) (old now : CursorState)
    (Done : List X → Type 0) (xs : List X) (rest : List ℕ) : Type 0 where
  pub before : List X
  pub done : Done before
  pub others : List X
  pub fuel : ℕ
  pub reads : list_by read fuel left (ahead now) ≡ Some (others, rest)
  pub whole : xs ≡ before ++ others
  pub nodes : now.nodes ≡ raised old.nodes (total size before)
  pub heads : now.heads + length (ahead now) ≤ old.heads + length (ahead old)

-- The invariant of a loop over them.
pub record Gathers {X : Type 0} (read : Reader X) (size : X → ℕ) (all left : Option ℕ) (old now : CursorState)
    (Done : List X → Type 0) : Type 0 where
  pub moves : MovesForward old now
  pub spans : Spans 0 old now
  pub goes : (xs : List X) (rest : List ℕ) → list_at read all (ahead old) ≡ Some (xs, rest)
      → Remaining read size left old now Done xs rest

pub gathers_start : {X : Type 0} (read : Reader X) (size : X → ℕ) (left : Option ℕ) (a : CursorState)
    (Done : List X → Type 0) → IsInside a → Done [] → Gathers read size left left a a Done
gathers_start read size left a Done inside none = record {
  moves = moves_none a inside;
  spans = spans_none a;
  goes = λ xs rest e. record {
    before = [];
    done = none;
    others = xs;
    fuel = suc (length (ahead a));
    reads = e;
    whole = refl;
    nodes = refl;
    heads = omega arith;
  };
}

-- a list whose head counts elements has some
some_decoded : {X : Type 0} (read : Reader X) (fuel : ℕ) (len : Option ℕ) (bytes : List ℕ) (xs : List X)
    (rest : List ℕ) → IsSomeAnd len (λ n. 0 < n) → list_by read (suc fuel) len bytes ≡ Some (xs, rest)
    → IsNotEmpty xs
some_decoded read fuel None bytes xs rest some e = absurd some
some_decoded read fuel (Some zero) bytes xs rest some e = absurd (omega (arith, some))
some_decoded {X = X} read fuel (Some (suc n)) bytes xs rest some e =
    let first = bind_some (start read bytes) (after_one read fuel n) (xs, rest)
    (sym (list_begun read fuel n bytes) ∙ e) in
    let others = bind_some (list_by read fuel (Some n) first.0.1) (λ ys. Some (first.0.0 ∷ ys.0, ys.1)) (xs, rest)
    first.2 in
    let same : first.0.0 ∷ others.0.0 ≡ xs = ap (λ (q : List X × List ℕ). q.0)
    (some_is (first.0.0 ∷ others.0.0, others.0.1) (xs, rest) others.2) in
    subst IsNotEmpty same tt

-- memory ran out before the first element
pub no_room : {V X : Type 0} (m : Making V X) (read : Reader X) (len : Option ℕ) (a : CursorState) → Shrinks read
    → IsInside a → IsSomeAnd len (λ n. 0 < n)
    → Makes (each_of m) 0 (list_at read len (ahead a)) a a (Err error.OutOfMemory)
no_room m read len a shrinks inside some = record {
  moves = moves_none a inside;
  spans = tt;
  made = λ xs rest e. (some_decoded read (length (ahead a)) len (ahead a) xs rest some e, omega arith);
  heads = λ xs rest e.
      omega (arith, list_left read shrinks (suc (length (ahead a))) len (ahead a) (xs, rest) e);
}

-- a list that is decoded has a next step
list_goes : {X : Type 0} (read : Reader X) (fuel : ℕ) (left : Option ℕ) (bytes : List ℕ) (xs : List X)
    (rest : List ℕ) → list_by read fuel left bytes ≡ Some (xs, rest)
    → (s : Step) × (step_at left bytes ≡ Some s)
    × ((more : ℕ) × (after_step read (list_by read more) s ≡ Some (xs, rest)))
unfolding list_by
list_goes read zero left bytes xs rest e = absurd (none_is_some (xs, rest) e)
list_goes read (suc fuel) left bytes xs rest e =
    let s = bind_some (step_at left bytes) (after_step read (list_by read fuel)) (xs, rest) e in
    (s.0, s.1, (fuel, s.2))

-- no well-formed step follows, so no list is decoded
pub gathers_nothing : {X : Type 0} (read : Reader X) (size : X → ℕ) (all left : Option ℕ) (a b c : CursorState)
    (Done : List X → Type 0) → Gathers read size all left a b Done → NoHead (step_at left (ahead b)) b c
    → (xs : List X) (rest : List ℕ) → list_at read all (ahead a) ≡ Some (xs, rest) → ⊥
gathers_nothing read size all left a b c Done g n xs rest e =
    let r = g.goes xs rest e in
    let s = list_goes read r.fuel left (ahead b) r.others rest r.reads in
    none_is_some s.0 (sym n.reads ∙ s.1)

-- all elements were built
pub record Ended {X : Type 0} (size : X → ℕ) (old now : CursorState) (Done : List X → Type 0) (xs : List X)
    (rest : List ℕ) : Type 0 where
  pub done : Done xs
  pub rest_is : ahead now ≡ rest
  pub nodes : now.nodes ≡ raised old.nodes (total size xs)
  pub heads : now.heads + length rest ≤ old.heads + length (ahead old)

pub gathers_end : {X : Type 0} (read : Reader X) (size : X → ℕ) (all left : Option ℕ) (a b c : CursorState)
    (Done : List X → Type 0) → Gathers read size all left a b Done → EndRead left b c
    → (xs : List X) (rest : List ℕ) → list_at read all (ahead a) ≡ Some (xs, rest) → Ended size a c Done xs rest
gathers_end {X = X} read size all left a b c Done g n xs rest e =
    let r = g.goes xs rest e in
    let s = list_goes read r.fuel left (ahead b) r.others rest r.reads in
    let at : after_step read (list_by read s.2.0) (end (ahead c)) ≡ Some (r.others, rest) =
    ap (after_step read (list_by read s.2.0)) (some_is (end (ahead c)) s.0 (sym n.reads ∙ s.1)) ∙ s.2.1 in
    let p = some_is ([], ahead c) (r.others, rest) at in
    let all_is : r.before ≡ xs = sym (append-nil r.before)
    ∙ ap (λ (ys : List X). r.before ++ ys) (ap (λ (q : List X × List ℕ). q.0) p) ∙ sym r.whole in
    let rest_is : ahead c ≡ rest = ap (λ (q : List X × List ℕ). q.1) p in
    record {
      done = subst Done all_is r.done;
      rest_is = rest_is;
      nodes = n.passed.nodes ∙ r.nodes ∙ ap (λ (ys : List X). raised a.nodes (total size ys)) all_is;
      heads = omega (arith, r.heads, passed_heads b c n.passed, ap length rest_is);
    }

-- the next element is decoded, and then the others
pub record Here {X : Type 0} (read : Reader X) (size : X → ℕ) (after : Option ℕ) (old now : CursorState) (h : Head)
    (Done : List X → Type 0) (xs : List X) (rest : List ℕ) : Type 0 where
  pub before : List X
  pub done : Done before
  pub first : X
  pub middle : List ℕ
  pub one : read h (ahead now) ≡ Some (first, middle)
  pub others : List X
  pub fuel : ℕ
  pub reads : list_by read fuel after middle ≡ Some (others, rest)
  pub whole : xs ≡ before ++ first ∷ others
  pub nodes : now.nodes ≡ raised old.nodes (total size before)
  pub heads : now.heads + length (ahead now) ≤ old.heads + length (ahead old)

pub gathers_here : {X : Type 0} (read : Reader X) (size : X → ℕ) (all left after : Option ℕ) (a b c : CursorState)
    (h : Head) (Done : List X → Type 0) → Gathers read size all left a b Done → ElementRead left after b c h → (xs :
    List X) (rest : List ℕ) → list_at read all (ahead a) ≡ Some (xs, rest) → Here read size after a c h Done xs rest
gathers_here {X = X} read size all left after a b c h Done g n xs rest e =
    let r = g.goes xs rest e in
    let s = list_goes read r.fuel left (ahead b) r.others rest r.reads in
    let at : after_step read (list_by read s.2.0) (element after h (ahead c)) ≡ Some (r.others, rest) =
    ap (after_step read (list_by read s.2.0)) (some_is (element after h (ahead c)) s.0 (sym n.reads ∙ s.1))
    ∙ s.2.1 in
    let x = bind_some (read h (ahead c)) (λ x. list_by read s.2.0 after x.1 >>= λ xs. Some (x.0 ∷ xs.0, xs.1))
    (r.others, rest) at in
    let ys = bind_some (list_by read s.2.0 after x.0.1) (λ xs. Some (x.0.0 ∷ xs.0, xs.1)) (r.others, rest) x.2 in
    let p = some_is (x.0.0 ∷ ys.0.0, ys.0.1) (r.others, rest) ys.2 in
    record {
      before = r.before;
      done = r.done;
      first = x.0.0;
      middle = x.0.1;
      one = x.1;
      others = ys.0.0;
      fuel = s.2.0;
      reads = ys.1 ∙ ap (λ (q : List X × List ℕ). Some (ys.0.0, q.1)) p;
      whole = r.whole ∙ ap (λ (q : List X × List ℕ). r.before ++ q.0) (sym p);
      nodes = n.passed.nodes ∙ r.nodes;
      heads = omega (arith, r.heads, passed_heads b c n.passed);
    }

-- what to prove for one more element
pub record Goes_on {X : Type 0} (size : X → ℕ) (old new : CursorState) (More : List X → Type 0) (before : List X) (x : X)
    (u : List ℕ) : Type 0 where
  pub more : More (before ++ x ∷ [])
  pub rest_is : ahead new ≡ u
  pub nodes : new.nodes ≡ raised old.nodes (size x)
  pub heads : new.heads + length u ≤ old.heads + length (ahead old)

-- the element was built
pub gathers_on : {X : Type 0} (read : Reader X) (size : X → ℕ) (all left after : Option ℕ) (a b c d : CursorState)
    (h : Head) (Done More : List X → Type 0) → Gathers read size all left a b Done → ElementRead left after b c h
    → MovesForward c d → Spans (content_len h) c d
    → ((before : List X) (x : X) (u : List ℕ) → Done before → read h (ahead c) ≡ Some (x, u)
    → Goes_on size c d More before x u) → Gathers read size all after a d More
gathers_on {X = X} read size all left after a b c d h Done More g n moves s made = record {
  moves = moves_then a b d g.moves (moves_then b c d (moves_passed b c n.passed) moves);
  spans = spans_then 0 a b d g.spans (spans_element left after b c d h n s);
  goes = λ xs rest e.
      let r = gathers_here read size all left after a b c h Done g n xs rest e in
      let m = made r.before r.first r.middle r.done r.one in
      let sum : total size r.before + size r.first ≡ total size (r.before ++ r.first ∷ []) =
      omega (arith, total-append size r.before (r.first ∷ [])) in
      record {
        before = r.before ++ r.first ∷ [];
        done = m.more;
        others = r.others;
        fuel = r.fuel;
        reads = ap (list_by read r.fuel after) m.rest_is ∙ r.reads;
        whole = r.whole ∙ sym (append_assoc r.before (r.first ∷ []) r.others);
        nodes = m.nodes ∙ ap (λ (i : ℕ). raised i (size r.first)) r.nodes
            ∙ raised-raised a.nodes (total size r.before) (size r.first) ∙ ap (raised a.nodes) sum;
        heads = omega (arith, r.heads, m.heads, ap length m.rest_is);
      };
}

pub not_empty : {X : Type 0} (before others xs : List X) (x : X) → xs ≡ before ++ x ∷ others → IsNotEmpty xs
not_empty [] others xs x e = subst IsNotEmpty (sym e) tt
not_empty (y ∷ before) others xs x e = subst IsNotEmpty (sym e) tt

-- ---- the result of a loop over the elements

pub gathers_malformed : {V X : Type 0} (m : Making V X) (read : Reader X) (all left : Option ℕ) (a b c : CursorState)
    (Done : List X → Type 0) → Gathers read m.size all left a b Done → NoHead (step_at left (ahead b)) b c
    → Makes (each_of m) 0 (list_at read all (ahead a)) a c (Err error.DecodeFailed)
gathers_malformed m read all left a b c Done g n = record {
  moves = moves_then a b c g.moves (moves_stopped b c n.stopped);
  spans = tt;
  made = gathers_nothing read m.size all left a b c Done g n;
  heads = λ xs rest e. absurd (gathers_nothing read m.size all left a b c Done g n xs rest e);
}

pub gathers_made : {V X : Type 0} (m : Making V X) (read : Reader X) (all left : Option ℕ) (a b c : CursorState)
    (v : Vec V Global) → Gathers read m.size all left a b (λ xs. map m.view v.items ≡ xs) → EndRead left b c
    → Makes (each_of m) 0 (list_at read all (ahead a)) a c (Ok v)
gathers_made m read all left a b c v g n = record {
  moves = moves_then a b c g.moves (moves_passed b c n.passed);
  spans = spans_then 0 a b c g.spans (spans_end left b c n);
  made = λ xs rest e. let k = gathers_end read m.size all left a b c (λ xs. map m.view v.items ≡ xs) g n xs rest
      e in (k.done, k.rest_is, k.nodes);
  heads = λ xs rest e. (gathers_end read m.size all left a b c (λ xs. map m.view v.items ≡ xs) g n xs rest e).heads;
}

-- what was built before an element that failed
part_made : {X : Type 0} (size : X → ℕ) (before others xs : List X) (x : X) → xs ≡ before ++ x ∷ others
    → total size before + size x ≤ total size xs
part_made size before others xs x e = omega (arith, ap (total size) e, total-append size before (x ∷ others))

-- an element was not built
pub gathers_fails : {V X : Type 0} (m : Making V X) (read : Reader X) (all left after : Option ℕ) (a b c d : CursorState)
    (h : Head) (Done : List X → Type 0) (e : CborError) → Shrinks read → Gathers read m.size all left a b Done
    → ElementRead left after b c h → Makes m (content_len h) (read h (ahead c)) c d (Err e)
    → Makes (each_of m) 0 (list_at read all (ahead a)) a d (Err e)
gathers_fails m read all left after a b c d h Done e shrinks g n k = record {
  moves = moves_then a b d g.moves (moves_then b c d (moves_passed b c n.passed) k.moves);
  spans = tt;
  made = λ xs rest f.
      let r = gathers_here read m.size all left after a b c h Done g n xs rest f in
      fails_within m (each_of m) r.first xs r.middle rest a c d e (λ takes. not_empty r.before r.others xs r.first
      r.whole) (omega (
        arith,
        r.nodes,
        raised-le a.nodes (total m.size r.before),
        part_made m.size r.before r.others xs r.first r.whole,
      )) (k.made r.first r.middle r.one);
  heads = λ xs rest f.
      let r = gathers_here read m.size all left after a b c h Done g n xs rest f in
      omega (
        arith,
        r.heads,
        k.heads r.first r.middle r.one,
        list_left read shrinks r.fuel after r.middle (r.others, rest) r.reads,
      );
}

-- the element was built, but memory for the list ran out
pub gathers_full : {V X : Type 0} (m : Making V X) (read : Reader X) (all left after : Option ℕ) (a b c d : CursorState)
    (h : Head) (Done : List X → Type 0) (v : V) → Shrinks read → Gathers read m.size all left a b Done
    → ElementRead left after b c h → Makes m (content_len h) (read h (ahead c)) c d (Ok v)
    → Makes (each_of m) 0 (list_at read all (ahead a)) a d (Err error.OutOfMemory)
gathers_full m read all left after a b c d h Done v shrinks g n k = record {
  moves = moves_then a b d g.moves (moves_then b c d (moves_passed b c n.passed) k.moves);
  spans = tt;
  made = λ xs rest f.
      let r = gathers_here read m.size all left after a b c h Done g n xs rest f in
      let q = k.made r.first r.middle r.one in (
        not_empty r.before r.others xs r.first r.whole,
        omega (
          arith,
          q.2,
          raised-le c.nodes (m.size r.first),
          r.nodes,
          raised-le a.nodes (total m.size r.before),
          part_made m.size r.before r.others xs r.first r.whole,
        ),
      );
  heads = λ xs rest f.
      let r = gathers_here read m.size all left after a b c h Done g n xs rest f in
      omega (
        arith,
        r.heads,
        k.heads r.first r.middle r.one,
        list_left read shrinks r.fuel after r.middle (r.others, rest) r.reads,
      );
}

-- the element was built, and is appended to the others
pub gathers_pushed : {V X : Type 0} (m : Making V X) (read : Reader X) (all left after : Option ℕ) (a b c d : CursorState)
    (h : Head) (vs ws : List V) (v : V) → Gathers read m.size all left a b (λ xs. map m.view vs ≡ xs)
    → ElementRead left after b c h → Makes m (content_len h) (read h (ahead c)) c d (Ok v) → ws ≡ vs ++ v ∷ []
    → Gathers read m.size all after a d (λ xs. map m.view ws ≡ xs)
gathers_pushed {V = V} {X = X} m read all left after a b c d h vs ws v g n k pushed =
    gathers_on read m.size all left after a b c d h (λ xs. map m.view vs ≡ xs) (λ xs. map m.view ws ≡ xs) g n k.moves
    k.spans (λ before x u done one.
    let q = k.made x u one in
    record {
      more = ap (map m.view) pushed ∙ map-append m.view vs (v ∷ []) ∙ ap (λ (xs : List X). xs ++ m.view v ∷ []) done
          ∙ ap (λ (y : X). before ++ y ∷ []) q.0;
      rest_is = q.1;
      nodes = q.2;
      heads = k.heads x u one;
    })
