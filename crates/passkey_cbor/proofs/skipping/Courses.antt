-- What is still to be decoded, and what a cursor passed of it.
use Rattle.std.proofs.Common.{◌≡◌, ◌⊎◌, ℕ, zero, suc, ◌+◌, ◌*◌, ◌<◌, ◌≤◌, Bool, false, cond, List, ◌∷◌, length, Option, Some, None, refl, sym, ap, ◌∙◌, arith, inl, inr}
use Rattle.passkey_cbor.specs.Item.{Item, tagged}
use Rattle.passkey_cbor.specs.HeadReading.{◌>>=◌, Read, head_at}
use Rattle.passkey_cbor.specs.Reading.{Reader, start, is_break, Step, end, element, step_at, after_step, list_by, list_at, pair_by, item_by, item_within}
use Rattle.passkey_cbor.specs.HeadsDecoded.{Tally, then_heads, begun_heads, start_heads, step_heads, list_heads_by, list_heads, pair_heads, item_heads_by, item_heads}
use Rattle.passkey_cbor.specs.CursorState.{break_heads}
use Rattle.passkey_cbor.specs.Courses.{Course, after_heads, over, fault, resumed, ◌▸◌, rest_of, course_after, course_of, list_course, item_course, item_after, items_course, pairs_course, open_course, begins_break}
use Rattle.passkey_cbor.specs.declared.head.Head.{Head}
use Rattle.passkey_cbor.specs.declared.head.Head.TheVariants as head
use Rattle.passkey_cbor.specs.declared.skip.Open.TheVariants as opens
use Rattle.passkey_cbor.proofs.items.Binds.{bind_some}
use Rattle.passkey_cbor.proofs.heads.HeadCounts.{element_head}
use Rattle.passkey_cbor.proofs.items.Shrinking.{Shrinks, heads_left, item_left, pair_left}

abbrev pub course : Option (List ℕ) → ℕ → Course
course rest heads = record { rest = rest; heads = heads }

-- ---- one after the other

pub after_after : (j k : ℕ) (c : Course) → after_heads j (after_heads k c) ≡ after_heads (j + k) c
after_after j k c = let sum : j + (k + c.heads) ≡ (j + k) + c.heads = omega arith in ap (course c.rest) sum

pub after_none : (c : Course) → after_heads 0 c ≡ c
after_none c = let sum : 0 + c.heads ≡ c.heads = omega arith in ap (course c.rest) sum

later : (o : Option (List ℕ)) (n m : ℕ) (g : List ℕ → Course) → resumed o (n + m) g ≡ after_heads n (resumed o m g)
later None n m g = refl
later (Some rest) n m g = sym (after_after n m (g rest))

pub after_then : (n : ℕ) (c : Course) (g : List ℕ → Course) → (after_heads n c ▸ g) ≡ after_heads n (c ▸ g)
after_then n c g = later c.rest n c.heads g

grouped : (o : Option (List ℕ)) (n : ℕ) (f g : List ℕ → Course)
    → (resumed o n f ▸ g) ≡ resumed o n (λ rest. f rest ▸ g)
grouped None n f g = refl
grouped (Some rest) n f g = after_then n (f rest) g

pub then_then : (c : Course) (f g : List ℕ → Course) → ((c ▸ f) ▸ g) ≡ (c ▸ λ rest. f rest ▸ g)
then_then c f g = grouped c.rest c.heads f g

ended : (o : Option (List ℕ)) (n : ℕ) → resumed o n over ≡ course o n
ended None n = refl
ended (Some rest) n = let sum : n + 0 ≡ n = omega arith in ap (course (Some rest)) sum

pub then_over : (c : Course) → (c ▸ over) ≡ c
then_over c = ended c.rest c.heads

then_same : (o : Option (List ℕ)) (n : ℕ) (f g : List ℕ → Course) → ((rest : List ℕ) → o ≡ Some rest → f rest ≡ g rest)
    → resumed o n f ≡ resumed o n g
then_same None n f g same = refl
then_same (Some rest) n f g same = ap (after_heads n) (same rest refl)

-- ---- readings

rest_made : {A B : Type 0} (read : Read A) (make : A → B) → rest_of (read >>= λ x. Some (make x.0, x.1)) ≡ rest_of read
rest_made None make = refl
rest_made (Some x) make = refl

pub rest_is : {A : Type 0} (read : Read A) (rest : List ℕ) → rest_of read ≡ Some rest → (x : A) × (read ≡ Some (x, rest))
rest_is None rest e = absurd cc
rest_is (Some x) rest e = (x.0, ap (λ (r : Option (List ℕ)). r >>= λ t. Some (x.0, t)) e)

-- ---- the steps of a list

abbrev list_course_by : {A : Type 0} → Reader A → Tally → ℕ → Option ℕ → List ℕ → Course
list_course_by read more fuel left bytes = course (rest_of (list_by read fuel left bytes)) (list_heads_by read more fuel left bytes)

abbrev step_course : {A : Type 0} → Reader A → Tally → (Option ℕ → List ℕ → Course) → Option ℕ → Option Step → Course
step_course read more others left None = fault 1
step_course read more others left (Some (end rest)) = course (Some rest) (break_heads left)
step_course read more others left (Some (element after h rest)) =
    after_heads 1 (course_after read more h rest ▸ others after)

-- an element and those after it
element_course : {A : Type 0} (others : List ℕ → Read (List A)) (heads : List ℕ → ℕ) (read : Read A) (n : ℕ)
    → course (rest_of (read >>= λ x. others x.1 >>= λ xs. Some (x.0 ∷ xs.0, xs.1))) (suc (n + then_heads read heads))
    ≡ after_heads 1 (resumed (rest_of read) n (λ rest. course (rest_of (others rest)) (heads rest)))
element_course others heads None n = let sum : suc (n + 0) ≡ 1 + n = omega arith in ap (course None) sum
element_course others heads (Some x) n =
    let sum : suc (n + heads x.1) ≡ 1 + (n + heads x.1) = omega arith in
    ap (λ (r : Option (List ℕ)). course r (suc (n + heads x.1))) (rest_made (others x.1) (λ xs. x.0 ∷ xs))
    ∙ ap (course (rest_of (others x.1))) sum

stepped : {A : Type 0} (read : Reader A) (more : Tally) (fuel : ℕ) (left : Option ℕ) (s : Option Step)
    → course (rest_of (s >>= after_step read (list_by read fuel))) (step_heads read more (list_heads_by read more fuel) left s)
    ≡ step_course read more (list_course_by read more fuel) left s
stepped read more fuel left None = refl
stepped read more fuel left (Some (end rest)) = refl
stepped read more fuel left (Some (element after h rest)) =
    element_course (list_by read fuel after) (list_heads_by read more fuel after) (read h rest) (more h rest)

course_step : {A : Type 0} (read : Reader A) (more : Tally) (fuel : ℕ) (left : Option ℕ) (bytes : List ℕ)
    → list_course_by read more (suc fuel) left bytes
    ≡ step_course read more (list_course_by read more fuel) left (step_at left bytes)
unfolding list_by list_heads_by
course_step read more fuel left bytes = stepped read more fuel left (step_at left bytes)

-- two courses of what is left that agree where fewer bytes are left
step_same : {A : Type 0} (read : Reader A) (more : Tally) → Shrinks read → (f g : Option ℕ → List ℕ → Course)
    (left : Option ℕ) (bytes : List ℕ)
    → ((after : Option ℕ) (rest : List ℕ) → length rest < length bytes → f after rest ≡ g after rest)
    → step_course read more f left (step_at left bytes) ≡ step_course read more g left (step_at left bytes)
step_same read more shrinks f g left bytes same = by_step (step_at left bytes) refl where
  by_step : (s : Option Step) → step_at left bytes ≡ s → step_course read more f left s ≡ step_course read more g left s
  by_step None e = refl
  by_step (Some (end rest)) e = refl
  by_step (Some (element after h r)) e =
      ap (after_heads 1) (then_same (rest_of (read h r)) (more h r) (f after) (g after) (λ rest is.
      let x = rest_is (read h r) rest is in
      same after rest (omega (
        arith,
        heads_left bytes (h, r) (element_head left after bytes h r e),
        shrinks h r (x.0, rest) x.1,
      ))))

-- any fuel that is enough
same_fuel : {A : Type 0} (read : Reader A) (more : Tally) → Shrinks read → (f g : ℕ) (left : Option ℕ) (bytes : List ℕ)
    → length bytes < f → length bytes < g → list_course_by read more f left bytes ≡ list_course_by read more g left bytes
same_fuel read more shrinks zero g left bytes p q = absurd (omega arith)
same_fuel read more shrinks (suc f) zero left bytes p q = absurd (omega arith)
same_fuel read more shrinks (suc f) (suc g) left bytes p q =
    course_step read more f left bytes
    ∙ step_same read more shrinks (list_course_by read more f) (list_course_by read more g) left bytes
    (λ after rest lt. same_fuel read more shrinks f g after rest (omega arith) (omega arith))
    ∙ sym (course_step read more g left bytes)

list_step : {A : Type 0} (read : Reader A) (more : Tally) → Shrinks read → (left : Option ℕ) (bytes : List ℕ)
    → list_course read more left bytes ≡ step_course read more (list_course read more) left (step_at left bytes)
list_step read more shrinks left bytes =
    course_step read more (length bytes) left bytes
    ∙ step_same read more shrinks (list_course_by read more (length bytes)) (list_course read more) left bytes
    (λ after rest lt. same_fuel read more shrinks (length bytes) (suc (length rest)) after rest lt (omega arith))

-- ---- by the next element

known_begun : {A : Type 0} (read : Reader A) (more : Tally) (others : Option ℕ → List ℕ → Course) (n : ℕ) (o : Read Head)
    → step_course read more others (Some (suc n)) (o >>= λ h. Some (element (Some n) h.0 h.1))
    ≡ (course (rest_of (o >>= λ h. read h.0 h.1)) (begun_heads more o) ▸ others (Some n))
known_begun read more others n None = refl
known_begun read more others n (Some h) =
    let sum : 1 + more h.0 h.1 ≡ suc (more h.0 h.1) = omega arith in
    sym (later (rest_of (read h.0 h.1)) 1 (more h.0 h.1) (others (Some n)))
    ∙ ap (λ (k : ℕ). resumed (rest_of (read h.0 h.1)) k (others (Some n))) sum

known_one : {A : Type 0} (read : Reader A) (more : Tally) → Shrinks read → (n : ℕ) (bytes : List ℕ)
    → list_course read more (Some (suc n)) bytes ≡ (course_of read more bytes ▸ list_course read more (Some n))
unfolding step_at
known_one read more shrinks n bytes = list_step read more shrinks (Some (suc n)) bytes
    ∙ known_begun read more (list_course read more) n (head_at bytes)

known_none : {A : Type 0} (read : Reader A) (more : Tally) → Shrinks read → (bytes : List ℕ)
    → list_course read more (Some 0) bytes ≡ over bytes
unfolding step_at
known_none read more shrinks bytes = list_step read more shrinks (Some 0) bytes

unknown_begun : {A : Type 0} (read : Reader A) (more : Tally) (others : Option ℕ → List ℕ → Course) (o : Read Head)
    → begins_break o ≡ false → step_course read more others None
    (o >>= λ h. cond (is_break h.0) (Some (end h.1)) (Some (element None h.0 h.1)))
    ≡ (course (rest_of (o >>= λ h. read h.0 h.1)) (begun_heads more o) ▸ others None)
unknown_begun read more others None goes_on = refl
unknown_begun read more others (Some h) goes_on =
    let sum : 1 + more h.0 h.1 ≡ suc (more h.0 h.1) = omega arith in
    ap (λ (b : Bool). step_course read more others None (cond b (Some (end h.1)) (Some (element None h.0 h.1)))) goes_on
    ∙ sym (later (rest_of (read h.0 h.1)) 1 (more h.0 h.1) (others None))
    ∙ ap (λ (k : ℕ). resumed (rest_of (read h.0 h.1)) k (others None)) sum

unknown_one : {A : Type 0} (read : Reader A) (more : Tally) → Shrinks read → (bytes : List ℕ)
    → begins_break (head_at bytes) ≡ false
    → list_course read more None bytes ≡ (course_of read more bytes ▸ list_course read more None)
unfolding step_at
unknown_one read more shrinks bytes goes_on = list_step read more shrinks None bytes
    ∙ unknown_begun read more (list_course read more) (head_at bytes) goes_on

unknown_end : {A : Type 0} (read : Reader A) (more : Tally) → Shrinks read → (bytes rest : List ℕ)
    → head_at bytes ≡ Some (head.Break, rest) → list_course read more None bytes ≡ course (Some rest) 1
unfolding step_at
unknown_end read more shrinks bytes rest e = list_step read more shrinks None bytes
    ∙ ap (λ (o : Read Head). step_course read more (list_course read more) None
    (o >>= λ h. cond (is_break h.0) (Some (end h.1)) (Some (element None h.0 h.1)))) e

-- ---- pairs

pair_begun : (read : Reader Item) (more : Tally) (o : Read Item) (n : ℕ)
    → course (rest_of {A = Item × Item} (o >>= λ k. start read k.1 >>= λ v. Some ((k.0, v.0), v.1))) (suc (n + then_heads o (start_heads more)))
    ≡ resumed (rest_of o) (suc n) (course_of read more)
pair_begun read more None n = let sum : suc (n + 0) ≡ suc n = omega arith in ap (course None) sum
pair_begun read more (Some k) n =
    let sum : suc (n + start_heads more k.1) ≡ suc n + start_heads more k.1 = omega arith in
    ap (λ (r : Option (List ℕ)). course r (suc (n + start_heads more k.1))) (rest_made (start read k.1)
    (λ (v : Item). let both : Item × Item = (k.0, v) in both))
    ∙ ap (course (rest_of (start read k.1))) sum

pair_headed : (read : Reader Item) (more : Tally) (o : Read Head)
    → course (rest_of (o >>= λ h. pair_by read h.0 h.1)) (begun_heads (pair_heads read more) o)
    ≡ (course (rest_of (o >>= λ h. read h.0 h.1)) (begun_heads more o) ▸ course_of read more)
pair_headed read more None = refl
pair_headed read more (Some h) = pair_begun read more (read h.0 h.1) (more h.0 h.1)

one_pair : (read : Reader Item) (more : Tally) (bytes : List ℕ)
    → course_of (pair_by read) (pair_heads read more) bytes ≡ (course_of read more bytes ▸ course_of read more)
one_pair read more bytes = pair_headed read more (head_at bytes)

-- ---- data items and lists of them

pub items_none : (levels : ℕ) (bytes : List ℕ) → items_course levels (Some 0) bytes ≡ over bytes
unfolding items_course
items_none levels bytes = known_none (item_within levels) (item_heads levels) (item_left levels) bytes

pub items_one : (levels n : ℕ) (bytes : List ℕ)
    → items_course levels (Some (suc n)) bytes ≡ (item_course levels bytes ▸ items_course levels (Some n))
unfolding items_course item_course
items_one levels n bytes = known_one (item_within levels) (item_heads levels) (item_left levels) n bytes

pub items_to_break : (levels : ℕ) (bytes : List ℕ) → begins_break (head_at bytes) ≡ false
    → items_course levels None bytes ≡ (item_course levels bytes ▸ items_course levels None)
unfolding items_course item_course
items_to_break levels bytes goes_on =
    unknown_one (item_within levels) (item_heads levels) (item_left levels) bytes goes_on

pub items_end : (levels : ℕ) (bytes rest : List ℕ) → head_at bytes ≡ Some (head.Break, rest)
    → items_course levels None bytes ≡ course (Some rest) 1
unfolding items_course
items_end levels bytes rest e = unknown_end (item_within levels) (item_heads levels) (item_left levels) bytes rest e

pairs_none : (levels : ℕ) (bytes : List ℕ) → pairs_course levels (Some 0) bytes ≡ over bytes
unfolding pairs_course
pairs_none levels bytes = known_none (pair_by (item_within levels))
    (pair_heads (item_within levels) (item_heads levels)) (pair_left (item_within levels) (item_left levels)) bytes

pairs_one : (levels n : ℕ) (bytes : List ℕ) → pairs_course levels (Some (suc n)) bytes
    ≡ (item_course levels bytes ▸ λ rest. item_course levels rest ▸ pairs_course levels (Some n))
unfolding pairs_course item_course
pairs_one levels n bytes =
    let read = item_within levels in
    let more = item_heads levels in
    known_one (pair_by read) (pair_heads read more) (pair_left read (item_left levels)) n bytes
    ∙ ap (λ (c : Course). c ▸ list_course (pair_by read) (pair_heads read more) (Some n)) (one_pair read more bytes)
    ∙ then_then (course_of read more bytes) (course_of read more) (list_course (pair_by read) (pair_heads read more) (Some n))

pub pairs_to_break : (levels : ℕ) (bytes : List ℕ) → begins_break (head_at bytes) ≡ false
    → pairs_course levels None bytes
    ≡ (item_course levels bytes ▸ λ rest. item_course levels rest ▸ pairs_course levels None)
unfolding pairs_course item_course
pairs_to_break levels bytes goes_on =
    let read = item_within levels in
    let more = item_heads levels in
    unknown_one (pair_by read) (pair_heads read more) (pair_left read (item_left levels)) bytes goes_on
    ∙ ap (λ (c : Course). c ▸ list_course (pair_by read) (pair_heads read more) None) (one_pair read more bytes)
    ∙ then_then (course_of read more bytes) (course_of read more) (list_course (pair_by read) (pair_heads read more) None)

pub pairs_end : (levels : ℕ) (bytes rest : List ℕ) → head_at bytes ≡ Some (head.Break, rest)
    → pairs_course levels None bytes ≡ course (Some rest) 1
unfolding pairs_course
pairs_end levels bytes rest e = unknown_end (pair_by (item_within levels))
    (pair_heads (item_within levels) (item_heads levels)) (pair_left (item_within levels) (item_left levels)) bytes rest e

-- a data item leaves fewer bytes
item_shorter : (levels : ℕ) (bytes rest : List ℕ) → (item_course levels bytes).rest ≡ Some rest → length rest < length bytes
unfolding item_course
item_shorter levels bytes rest e =
    let x = rest_is (start (item_within levels) bytes) rest e in
    let h = bind_some (head_at bytes) (λ h. item_within levels h.0 h.1) (x.0, rest) x.1 in
    omega (arith, heads_left bytes h.0 h.1, item_left levels h.0.0 h.0.1 (x.0, rest) h.2)

-- a pair is two data items
pairs_are : (levels n m : ℕ) (bytes : List ℕ) → m ≡ n * 2
    → pairs_course levels (Some n) bytes ≡ items_course levels (Some m) bytes
pairs_are levels zero m bytes twice =
    let none : m ≡ 0 = omega arith in
    pairs_none levels bytes ∙ sym (ap (λ (k : ℕ). items_course levels (Some k) bytes) none ∙ items_none levels bytes)
pairs_are levels (suc n) m bytes twice =
    let two : m ≡ suc (suc (n * 2)) = omega arith in
    let item = item_course levels in
    pairs_one levels n bytes
    ∙ then_same (item bytes).rest (item bytes).heads (λ rest. item rest ▸ pairs_course levels (Some n))
    (items_course levels (Some (suc (n * 2)))) (λ rest e.
    then_same (item rest).rest (item rest).heads (pairs_course levels (Some n)) (items_course levels (Some (n * 2)))
    (λ last f. pairs_are levels n (n * 2) last refl) ∙ sym (items_one levels (n * 2) rest))
    ∙ sym (ap (λ (k : ℕ). items_course levels (Some k) bytes) two ∙ items_one levels (suc (n * 2)) bytes)

-- more data items than there are bytes
too_many : (fuel levels n m : ℕ) (bytes : List ℕ) → length bytes ≤ fuel → length bytes < n → length bytes < m
    → items_course levels (Some n) bytes ≡ items_course levels (Some m) bytes
too_many fuel levels zero m bytes few p q = absurd (omega arith)
too_many fuel levels (suc n) zero bytes few p q = absurd (omega arith)
too_many zero levels (suc n) (suc m) bytes few p q =
    let item = item_course levels bytes in
    items_one levels n bytes ∙ then_same item.rest item.heads (items_course levels (Some n)) (items_course levels (Some m))
    (λ rest e. absurd (omega (arith, item_shorter levels bytes rest e))) ∙ sym (items_one levels m bytes)
too_many (suc fuel) levels (suc n) (suc m) bytes few p q =
    let item = item_course levels bytes in
    items_one levels n bytes ∙ then_same item.rest item.heads (items_course levels (Some n)) (items_course levels (Some m))
    (λ rest e. let shorter = item_shorter levels bytes rest e in
    too_many fuel levels n m rest (omega arith) (omega arith) (omega arith)) ∙ sym (items_one levels m bytes)

-- ---- what is left of a list

pub open_items : (levels n : ℕ) (bytes : List ℕ) → open_course levels (opens.Items n) bytes ≡ items_course levels (Some n) bytes
unfolding open_course
open_items levels n bytes = refl

pub open_to_break : (levels : ℕ) (bytes : List ℕ) → open_course levels opens.ItemsToBreak bytes ≡ items_course levels None bytes
unfolding open_course
open_to_break levels bytes = refl

pub open_pairs : (levels : ℕ) (bytes : List ℕ) → open_course levels opens.PairsToBreak bytes ≡ pairs_course levels None bytes
unfolding open_course
open_pairs levels bytes = refl

pub open_value : (levels : ℕ) (bytes : List ℕ) → open_course levels opens.ValueToBreak bytes
    ≡ (item_course levels bytes ▸ open_course levels opens.PairsToBreak)
unfolding open_course
open_value levels bytes = refl

-- a map of this length, where there are fewer bytes than that many data items
pub open_map : (levels n m : ℕ) (bytes : List ℕ) → (m ≡ n * 2) ⊎ ((length bytes < m) × (length bytes < n * 2))
    → open_course levels (opens.Items m) bytes ≡ pairs_course levels (Some n) bytes
open_map levels n m bytes (inl twice) = open_items levels m bytes ∙ sym (pairs_are levels n m bytes twice)
open_map levels n m bytes (inr few) =
    open_items levels m bytes
    ∙ too_many (length bytes) levels m (n * 2) bytes (omega arith) few.0 few.1
    ∙ sym (pairs_are levels n (n * 2) bytes refl)

-- ---- the data item after a head

pub headed : (levels : ℕ) (h : Head) (bytes rest : List ℕ) → head_at bytes ≡ Some (h, rest)
    → item_course levels bytes ≡ after_heads 1 (item_after levels h rest)
unfolding item_course item_after
headed levels h bytes rest e =
    let sum : suc (item_heads levels h rest) ≡ 1 + item_heads levels h rest = omega arith in
    ap (λ (o : Read Head). course (rest_of (o >>= λ h. item_within levels h.0 h.1)) (begun_heads (item_heads levels) o)) e
    ∙ ap (course (rest_of (item_within levels h rest))) sum

pub after_array : (levels : ℕ) (len : Option ℕ) (bytes : List ℕ)
    → item_after (suc levels) (head.Array len) bytes ≡ items_course levels len bytes
unfolding item_after items_course item_within item_by item_heads item_heads_by
after_array levels len bytes = ap (λ (r : Option (List ℕ)). course r (list_heads (item_within levels) (item_heads levels) len bytes))
    (rest_made (list_at (item_within levels) len bytes) _)

pub after_map : (levels : ℕ) (len : Option ℕ) (bytes : List ℕ)
    → item_after (suc levels) (head.Map len) bytes ≡ pairs_course levels len bytes
unfolding item_after pairs_course item_within item_by item_heads item_heads_by
after_map levels len bytes = ap (λ (r : Option (List ℕ)). course r
    (list_heads (pair_by (item_within levels)) (pair_heads (item_within levels) (item_heads levels)) len bytes))
    (rest_made (list_at (pair_by (item_within levels)) len bytes) _)

after_tag : (levels n : ℕ) (bytes : List ℕ) → item_after (suc levels) (head.Tag n) bytes ≡ item_course levels bytes
unfolding item_after item_course item_within item_by item_heads item_heads_by
after_tag levels n bytes = ap (λ (r : Option (List ℕ)). course r (start_heads (item_heads levels) bytes))
    (rest_made (start (item_within levels) bytes) (tagged n))

pub open_tag : (levels n : ℕ) (bytes : List ℕ)
    → item_after (suc levels) (head.Tag n) bytes ≡ open_course levels (opens.Items 1) bytes
open_tag levels n bytes =
    let item = item_course levels bytes in
    after_tag levels n bytes ∙ sym (then_over item)
    ∙ sym (open_items levels 1 bytes ∙ items_one levels 0 bytes
    ∙ then_same item.rest item.heads (items_course levels (Some 0)) over (λ rest e. items_none levels rest))

-- no deeper level is allowed
pub flat_array : (len : Option ℕ) (bytes : List ℕ) → item_after 0 (head.Array len) bytes ≡ fault 0
unfolding item_after item_within item_by item_heads item_heads_by
flat_array len bytes = refl

pub flat_map : (len : Option ℕ) (bytes : List ℕ) → item_after 0 (head.Map len) bytes ≡ fault 0
unfolding item_after item_within item_by item_heads item_heads_by
flat_map len bytes = refl

pub flat_tag : (n : ℕ) (bytes : List ℕ) → item_after 0 (head.Tag n) bytes ≡ fault 0
unfolding item_after item_within item_by item_heads item_heads_by
flat_tag n bytes = refl

-- no data item begins with a break
break_fault : (levels : ℕ) (bytes : List ℕ) → item_after levels head.Break bytes ≡ fault 0
unfolding item_after item_within item_by item_heads item_heads_by
break_fault zero bytes = refl
break_fault (suc levels) bytes = refl

pub no_item : (levels : ℕ) (bytes rest : List ℕ) → head_at bytes ≡ Some (head.Break, rest)
    → item_course levels bytes ≡ fault 1
no_item levels bytes rest e = headed levels head.Break bytes rest e ∙ ap (after_heads 1) (break_fault levels rest)
