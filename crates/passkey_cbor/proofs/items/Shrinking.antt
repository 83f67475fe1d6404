-- Decoding leaves no more bytes than there were.
use Rattle.std.proofs.Common.{◌≡◌, ◌⊎◌, ℕ, ◌+◌, zero, suc, ◌/◌, ◌%◌, ◌<◌, ◌≤◌, Bool, true, false, cond, List, [], ◌∷◌, length, take, drop, Option, Some, None, sym, ap, ◌∙◌, arith, inl, inr}
use Rattle.std.specs.Int.{byte_len, from_be_bytes}
use Rattle.std.specs.List.{concat}
use Rattle.std.proofs.lemmas.Bool.{cases_eq, cases_lt, lt-ltb, le-ltb, ne_eqb}
use Rattle.std.proofs.lemmas.List.{length-drop, length-take}
use Rattle.passkey_cbor.specs.Item.{Item, array, map, tagged, byte_string, text_string, items_of, pairs_of}
use Rattle.passkey_cbor.specs.Heads.{Size, width}
use Rattle.passkey_cbor.specs.HeadReading.{◌>>=◌, Read, take_at as taken_at, number_at, size_of, argument_at, with_argument, without_argument, simple_or_float, simple_at, head_after, head_at}
use Rattle.passkey_cbor.specs.Reading.{Reader, start, is_break, Step, end, element, step_at, after_step, list_by, list_at, is_allowed, piece_at, chunk_len, chunk, string_at, pair_by, item_by, item_within}
use Rattle.passkey_cbor.specs.declared.head.Head.{Head}
use Rattle.passkey_cbor.specs.declared.head.Head.TheVariants as head
use Rattle.passkey_cbor.proofs.items.Binds.{some_is, none_is_some, bind_some}

-- ---- one reading after another

-- what is left if the reading ends here
left_is : {A : Type 0} (bytes : List ℕ) (x : A) (y : A × List ℕ)
    → (let read : A × List ℕ = (x, bytes) in Some read) ≡ Some y → length y.1 ≤ length bytes
left_is {A = A} bytes x y e = omega (arith, ap (λ (q : A × List ℕ). length q.1) (some_is (x, bytes) y e))

-- what was decoded becomes part of something else
made_left : {A B : Type 0} (read : Read A) (make : A → B) (bytes : List ℕ) (y : B × List ℕ)
    → ((x : A × List ℕ) → read ≡ Some x → length x.1 ≤ length bytes) → (read >>= λ x. Some (make x.0, x.1)) ≡ Some y
    → length y.1 ≤ length bytes
made_left {B = B} read make bytes y shrinks e =
    let x = bind_some read (λ x. Some (make x.0, x.1)) y e in
    omega (arith, shrinks x.0 x.1, ap (λ (q : B × List ℕ). length q.1) (some_is (make x.0.0, x.0.1) y x.2))

-- ---- heads

taken_size : (n : ℕ) (bytes : List ℕ) (y : List ℕ × List ℕ) → taken_at n bytes ≡ Some y
    → length y.0 + length y.1 ≡ length bytes
taken_size n bytes y e = by_test (cases_lt (length bytes) n) where
  by_test : (length bytes < n) ⊎ (n ≤ length bytes) → length y.0 + length y.1 ≡ length bytes
  by_test (inl lt) = absurd (none_is_some y (rw (lt-ltb (length bytes) n lt) at e))
  by_test (inr le) =
      let p = some_is (take n bytes, drop n bytes) y (rw (le-ltb (length bytes) n le) at e) in
      omega (
        arith,
        le,
        ap (λ (q : List ℕ × List ℕ). length q.0) p,
        ap (λ (q : List ℕ × List ℕ). length q.1) p,
        length-take n bytes,
        length-drop n bytes,
      )

taken_left : (n : ℕ) (bytes : List ℕ) (y : List ℕ × List ℕ) → taken_at n bytes ≡ Some y → length y.1 ≤ length bytes
taken_left n bytes y e = omega (arith, taken_size n bytes y e)

number_left : (s : Size) (bytes : List ℕ) (y : ℕ × List ℕ) → number_at s bytes ≡ Some y → length y.1 ≤ length bytes
unfolding number_at
number_left s bytes y e = made_left (taken_at (byte_len (width s)) bytes) (from_be_bytes (width s)) bytes y
    (taken_left (byte_len (width s)) bytes) e

argument_left : (info : ℕ) (bytes : List ℕ) (y : ℕ × List ℕ) → argument_at info bytes ≡ Some y
    → length y.1 ≤ length bytes
unfolding argument_at
argument_left info bytes y e = by_test (cases_lt info 24) where
  by_test : (info < 24) ⊎ (24 ≤ info) → length y.1 ≤ length bytes
  by_test (inl lt) = left_is bytes info y (rw (lt-ltb info 24 lt) at e)
  by_test (inr le) =
      let s = bind_some (size_of info) (λ s. number_at s bytes) y (rw (le-ltb info 24 le) at e) in
      number_left s.0 bytes y s.2

-- a head with a number in it
head_left : (bytes : List ℕ) (n : ℕ × List ℕ) (h : Option Head) (y : Head × List ℕ) → length n.1 ≤ length bytes
    → (h >>= λ h. Some (h, n.1)) ≡ Some y → length y.1 ≤ length bytes
head_left bytes n h y le e =
    let g = bind_some h (λ h. Some (h, n.1)) y e in
    omega (arith, le, ap (λ (q : Head × List ℕ). length q.1) (some_is (g.0, n.1) y g.2))

simple_left : (info : ℕ) (bytes : List ℕ) (y : Head × List ℕ) → simple_at info bytes ≡ Some y
    → length y.1 ≤ length bytes
unfolding simple_at
simple_left info bytes y e = by_test (cases_lt info 24) where
  by_test : (info < 24) ⊎ (24 ≤ info) → length y.1 ≤ length bytes
  by_test (inl lt) = left_is bytes (head.Simple info) y (rw (lt-ltb info 24 lt) at e)
  by_test (inr le) =
      let s = bind_some (size_of info) (λ s. number_at s bytes >>= λ n. simple_or_float s n.0
      >>= λ h. Some (h, n.1)) y (rw (le-ltb info 24 le) at e) in
      let n = bind_some (number_at s.0 bytes) (λ n. simple_or_float s.0 n.0 >>= λ h. Some (h, n.1)) y s.2 in
      head_left bytes n.0 (simple_or_float s.0 n.0.0) y (number_left s.0 bytes n.0 n.1) n.2

following_left : (major info : ℕ) (bytes : List ℕ) (y : Head × List ℕ) → head_after major info bytes ≡ Some y
    → length y.1 ≤ length bytes
unfolding head_after
following_left major info bytes y e = by_31 (cases_eq info 31) where
  by_7 : (info ≡ 31 → ⊥) → (major ≡ 7) ⊎ (major ≡ 7 → ⊥) → length y.1 ≤ length bytes
  by_7 above (inl q) =
      let f : head_after 7 info bytes ≡ Some y = ap (λ (m : ℕ). head_after m info bytes) (sym q) ∙ e in
      simple_left info bytes y (rw (ne_eqb info 31 above) at f)
  by_7 above (inr other) =
      let n = bind_some (argument_at info bytes) (λ n. with_argument major n.0 >>= λ h. Some (h, n.1)) y
      (rw (ne_eqb info 31 above, ne_eqb major 7 other) at e) in
      head_left bytes n.0 (with_argument major n.0.0) y (argument_left info bytes n.0 n.1) n.2

  by_31 : (info ≡ 31) ⊎ (info ≡ 31 → ⊥) → length y.1 ≤ length bytes
  by_31 (inl q) =
      let f : head_after major 31 bytes ≡ Some y = ap (λ (i : ℕ). head_after major i bytes) (sym q) ∙ e in
      head_left bytes (0, bytes) (without_argument major) y (omega arith) f
  by_31 (inr above) = by_7 above (cases_eq major 7)

pub heads_left : (bytes : List ℕ) (y : Head × List ℕ) → head_at bytes ≡ Some y → length y.1 < length bytes
unfolding head_at
heads_left [] y e = absurd (none_is_some y e)
heads_left (b ∷ bytes) y e = omega (arith, following_left (b / 32) (b % 32) bytes y e)

-- ---- readers

-- decoding leaves no more bytes than there were after the head
abbrev pub Shrinks : {A : Type 0} → Reader A → Type 0
Shrinks {A} read = (h : Head) (bytes : List ℕ) (y : A × List ℕ) → read h bytes ≡ Some y → length y.1 ≤ length bytes

pub start_left : {A : Type 0} (read : Reader A) → Shrinks read → (bytes : List ℕ) (y : A × List ℕ)
    → start read bytes ≡ Some y → length y.1 ≤ length bytes
start_left read s bytes y e =
    let h = bind_some (head_at bytes) (λ h. read h.0 h.1) y e in
    omega (arith, heads_left bytes h.0 h.1, s h.0.0 h.0.1 y h.2)

-- how many bytes a step leaves
abbrev step_rest : Step → ℕ
step_rest (end r) = length r
step_rest (element left h r) = length r

-- a list, by its steps
after_left : {A : Type 0} (read : Reader A) (others : Option ℕ → List ℕ → Read (List A)) (s : Step)
    (y : List A × List ℕ) → Shrinks read → ((left : Option ℕ) (r : List ℕ) (z : List A × List ℕ)
    → others left r ≡ Some z → length z.1 ≤ length r) → after_step read others s ≡ Some y → length y.1 ≤ step_rest s
after_left read others (end r) y shrinks more e = left_is r [] y e
after_left {A = A} read others (element left h r) y shrinks more e =
    let x = bind_some (read h r) (λ x. others left x.1 >>= λ xs. Some (x.0 ∷ xs.0, xs.1)) y e in
    let xs = bind_some (others left x.0.1) (λ xs. Some (x.0.0 ∷ xs.0, xs.1)) y x.2 in
    omega (
      arith,
      shrinks h r x.0 x.1,
      more left x.0.1 xs.0 xs.1,
      ap (λ (q : List A × List ℕ). length q.1) (some_is (x.0.0 ∷ xs.0.0, xs.0.1) y xs.2),
    )

-- what a step leaves
step_left : (left : Option ℕ) (bytes : List ℕ) (s : Step) → step_at left bytes ≡ Some s → step_rest s ≤ length bytes
unfolding step_at
step_left (Some zero) bytes s e = omega (arith, ap step_rest (some_is (end bytes) s e))
step_left (Some (suc n)) bytes s e =
    let h = bind_some (head_at bytes) (λ h. Some (element (Some n) h.0 h.1)) s e in
    omega (arith, heads_left bytes h.0 h.1, ap step_rest (some_is (element (Some n) h.0.0 h.0.1) s h.2))
step_left None bytes s e =
    let h =
    bind_some (head_at bytes) (λ h. cond (is_break h.0) (Some (end h.1)) (Some (element None h.0 h.1))) s e in
    by_break (is_break h.0.0) h.0.0 h.0.1 (heads_left bytes h.0 h.1) h.2 where
      by_break : (b : Bool) (h : Head) (r : List ℕ) → length r < length bytes
          → cond b (Some (end r)) (Some (element None h r)) ≡ Some s → step_rest s ≤ length bytes
      by_break true h r lt f = omega (arith, lt, ap step_rest (some_is (end r) s f))
      by_break false h r lt f = omega (arith, lt, ap step_rest (some_is (element None h r) s f))

pub list_left : {A : Type 0} (read : Reader A) → Shrinks read → (fuel : ℕ) (left : Option ℕ) (bytes : List ℕ)
    (y : List A × List ℕ) → list_by read fuel left bytes ≡ Some y → length y.1 ≤ length bytes
unfolding list_by
list_left read s zero left bytes y e = absurd (none_is_some y e)
list_left read s (suc fuel) left bytes y e =
    let st = bind_some (step_at left bytes) (after_step read (list_by read fuel)) y e in
    omega (
      arith,
      step_left left bytes st.0 st.1,
      after_left read (list_by read fuel) st.0 y s (λ after r z. list_left read s fuel after r z) st.2,
    )

piece_size : (is_text : Bool) (n : ℕ) (bytes : List ℕ) (y : List ℕ × List ℕ) → piece_at is_text n bytes ≡ Some y
    → length y.0 + length y.1 ≡ length bytes
unfolding piece_at
piece_size is_text n bytes y e =
    let t = bind_some (taken_at n bytes) (λ t. cond (is_allowed is_text t.0) (Some t) None) y e in
    by_test (is_allowed is_text t.0.0) t.0 (taken_size n bytes t.0 t.1) t.2 where
      by_test : (b : Bool) (t : List ℕ × List ℕ) → length t.0 + length t.1 ≡ length bytes
          → cond b (Some t) None ≡ Some y → length y.0 + length y.1 ≡ length bytes
      by_test true t is f = omega (
        arith,
        is,
        ap (λ (q : List ℕ × List ℕ). length q.0) (some_is t y f),
        ap (λ (q : List ℕ × List ℕ). length q.1) (some_is t y f),
      )
      by_test false t is f = absurd (none_is_some y f)

piece_left : (is_text : Bool) (n : ℕ) (bytes : List ℕ) (y : List ℕ × List ℕ) → piece_at is_text n bytes ≡ Some y
    → length y.1 ≤ length bytes
piece_left is_text n bytes y e = omega (arith, piece_size is_text n bytes y e)

pub chunk_size : (is_text : Bool) (h : Head) (bytes s rest : List ℕ) → chunk is_text h bytes ≡ Some (s, rest)
    → length s + length rest ≡ length bytes
chunk_size is_text h bytes s rest e =
    let n = bind_some (chunk_len is_text h) (λ n. piece_at is_text n bytes) (s, rest) e in
    piece_size is_text n.0 bytes (s, rest) n.2

pub chunk_left : (is_text : Bool) → Shrinks (chunk is_text)
chunk_left is_text h bytes y e =
    let n = bind_some (chunk_len is_text h) (λ n. piece_at is_text n bytes) y e in
    piece_left is_text n.0 bytes y n.2

string_left : (is_text : Bool) (len : Option ℕ) (bytes : List ℕ) (y : List ℕ × List ℕ)
    → string_at is_text len bytes ≡ Some y → length y.1 ≤ length bytes
unfolding string_at
string_left is_text (Some n) bytes y e = piece_left is_text n bytes y e
string_left is_text None bytes y e = made_left (list_at (chunk is_text) None bytes) concat bytes y
    (list_left (chunk is_text) (chunk_left is_text) (suc (length bytes)) None bytes) e

pub pair_left : (read : Reader Item) → Shrinks read → Shrinks (pair_by read)
pair_left read s h bytes y e =
    let k = bind_some (read h bytes) (λ k. start read k.1 >>= λ v. Some ((k.0, v.0), v.1)) y e in
    let v = bind_some (start read k.0.1) (λ v. Some ((k.0.0, v.0), v.1)) y k.2 in
    let both : Item × Item = (k.0.0, v.0.0) in
    omega (
      arith,
      s h bytes k.0 k.1,
      start_left read s k.0.1 v.0 v.1,
      ap (λ (q : (Item × Item) × List ℕ). length q.1) (some_is (both, v.0.1) y v.2),
    )

-- the reader for one level deeper, if such a level is allowed
abbrev ShrinksIf : Option (Reader Item) → Type 0
ShrinksIf None = Unit {0}
ShrinksIf (Some read) = Shrinks read

item_by_left : (inner : Option (Reader Item)) → ShrinksIf inner → Shrinks (item_by inner)
unfolding item_by
item_by_left inner s (head.Unsigned n) bytes y e = left_is bytes _ y e
item_by_left inner s (head.Negative n) bytes y e = left_is bytes _ y e
item_by_left inner s (head.Bytes len) bytes y e =
    made_left (string_at false len bytes) byte_string bytes y (string_left false len bytes) e
item_by_left inner s (head.Text len) bytes y e =
    made_left (string_at true len bytes) text_string bytes y (string_left true len bytes) e
item_by_left None s (head.Array len) bytes y e = absurd (none_is_some y e)
item_by_left (Some read) s (head.Array len) bytes y e = made_left (list_at read len bytes)
    (λ xs. array (items_of xs)) bytes y (list_left read s (suc (length bytes)) len bytes) e
item_by_left None s (head.Map len) bytes y e = absurd (none_is_some y e)
item_by_left (Some read) s (head.Map len) bytes y e = made_left (list_at (pair_by read) len bytes)
    (λ ps. map (pairs_of ps)) bytes y (list_left (pair_by read) (pair_left read s) (suc (length bytes)) len bytes) e
item_by_left None s (head.Tag n) bytes y e = absurd (none_is_some y e)
item_by_left (Some read) s (head.Tag n) bytes y e =
    made_left (start read bytes) (tagged n) bytes y (start_left read s bytes) e
item_by_left inner s (head.Simple n) bytes y e = left_is bytes _ y e
item_by_left inner s (head.Float f) bytes y e = left_is bytes _ y e
item_by_left inner s head.Break bytes y e = absurd (none_is_some y e)

pub item_left : (levels : ℕ) → Shrinks (item_within levels)
unfolding item_within
item_left zero = item_by_left None tt
item_left (suc levels) = item_by_left (Some (item_within levels)) (item_left levels)
