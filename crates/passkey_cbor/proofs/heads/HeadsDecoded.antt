-- How many heads are decoded, whether skipping succeeds or not.
use Rattle.std.proofs.Common.{◌≡◌, ◌∙◌, ℕ, zero, suc, ◌+◌, ◌<◌, Bool, true, false, List, length, Option, Some, None, refl, sym, ap, arith}
use Rattle.std.proofs.lemmas.List.{length-drop}
use Rattle.passkey_cbor.specs.Item.{Item}
use Rattle.passkey_cbor.specs.HeadReading.{Read, head_at}
use Rattle.passkey_cbor.specs.Reading.{Reader, Step, element, step_at, item_within}
use Rattle.passkey_cbor.specs.HeadsDecoded.{Tally, then_heads, begun_heads, start_heads, step_heads, list_heads_by, list_heads, string_heads, item_heads_by, item_heads}
use Rattle.passkey_cbor.specs.Lent.{string_head}
use Rattle.passkey_cbor.specs.CursorState.{CursorState, ahead, raised, Passed}
use Rattle.passkey_cbor.specs.Steps.{ElementRead}
use Rattle.passkey_cbor.specs.declared.head.Head.{Head}
use Rattle.passkey_cbor.proofs.heads.Raised.{raised-raised}

-- counted one after the other
pub decoded_then : (a b c : CursorState) (j k n : ℕ) → b.heads ≡ raised a.heads j → c.heads ≡ raised b.heads k → n ≡ j + k
    → c.heads ≡ raised a.heads n
decoded_then a b c j k n first second is =
    second ∙ ap (λ (m : ℕ). raised m k) first ∙ raised-raised a.heads j k ∙ ap (raised a.heads) (sym is)

pub as_many : (a b : CursorState) {n m : ℕ} → n ≡ m → b.heads ≡ raised a.heads m → b.heads ≡ raised a.heads n
as_many a b e counted = counted ∙ ap (raised a.heads) (sym e)

pub no_more : (a : CursorState) {n : ℕ} → n ≡ 0 → a.heads ≡ raised a.heads n
no_more a e = as_many a a e refl

-- ---- what comes after a head

pub then_none : {A : Type 0} (read : Read A) (others : List ℕ → ℕ) → read ≡ None → then_heads read others ≡ 0
then_none read others e = rw e refl

pub then_some : {A : Type 0} (read : Read A) (x : A) (rest : List ℕ) (others : List ℕ → ℕ) → read ≡ Some (x, rest)
    → then_heads read others ≡ others rest
then_some read x rest others e = rw e refl

pub started : (more : Tally) (bytes rest : List ℕ) (h : Head) → head_at bytes ≡ Some (h, rest)
    → start_heads more bytes ≡ suc (more h rest)
started more bytes rest h e = ap (begun_heads more) e

-- ---- items

-- the heads at this many levels, from those one level deeper
heads_within : (levels : ℕ) → (inner : Option (Reader Item × Tally)) × (item_heads levels ≡ item_heads_by inner)
unfolding item_heads
heads_within zero = (None, refl)
heads_within (suc levels) = (Some (item_within levels, item_heads levels), refl)

-- nothing comes after this head
pub flat_heads : (levels : ℕ) (h g : Head) (bytes : List ℕ) → h ≡ g
    → ((inner : Option (Reader Item × Tally)) → item_heads_by inner g bytes ≡ 0) → item_heads levels h bytes ≡ 0
flat_heads levels h g bytes is flat = ap (λ (k : Head). item_heads levels k bytes) is
    ∙ ap (λ (t : Tally). t g bytes) (heads_within levels).1 ∙ flat (heads_within levels).0

string_by_head : (inner : Option (Reader Item × Tally)) (is_text : Bool) (len : Option ℕ) (bytes : List ℕ)
    → item_heads_by inner (string_head is_text len) bytes ≡ string_heads is_text len bytes
unfolding item_heads_by
string_by_head inner false len bytes = refl
string_by_head inner true len bytes = refl

pub headed_string : (levels : ℕ) (is_text : Bool) (len : Option ℕ) (h : Head) (bytes : List ℕ)
    → h ≡ string_head is_text len → item_heads levels h bytes ≡ string_heads is_text len bytes
headed_string levels is_text len h bytes is =
    ap (λ (k : Head). item_heads levels k bytes) is ∙ ap (λ (t : Tally). t (string_head is_text len) bytes)
    (heads_within levels).1 ∙ string_by_head (heads_within levels).0 is_text len bytes

-- ---- the elements of a list

-- The invariant of a loop over them: the heads that were decoded, and those of the elements that are left, are all.
pub record Tallies {A : Type 0} (read : Reader A) (more : Tally) (all left : Option ℕ) (old now : CursorState) : Type 0 where
  pub decoded : ℕ
  pub heads : now.heads ≡ raised old.heads decoded
  pub fuel : ℕ
  pub enough : length (ahead now) < fuel
  pub sum : list_heads read more all (ahead old) ≡ decoded + list_heads_by read more fuel left (ahead now)

pub tallies_start : {A : Type 0} (read : Reader A) (more : Tally) (left : Option ℕ) (a : CursorState)
    → Tallies read more left left a a
tallies_start read more left a =
    record { decoded = 0; heads = refl; fuel = suc (length (ahead a)); enough = omega arith; sum = omega arith }

list_step : {A : Type 0} (read : Reader A) (more : Tally) (fuel : ℕ) (left : Option ℕ) (bytes : List ℕ)
    → list_heads_by read more (suc fuel) left bytes
    ≡ step_heads read more (list_heads_by read more fuel) left (step_at left bytes)
unfolding list_heads_by
list_step read more fuel left bytes = refl

list_stepped : {A : Type 0} (read : Reader A) (more : Tally) (fuel : ℕ) (left : Option ℕ) (bytes : List ℕ)
    (s : Option Step) → step_at left bytes ≡ s
    → list_heads_by read more (suc fuel) left bytes ≡ step_heads read more (list_heads_by read more fuel) left s
list_stepped read more fuel left bytes s e =
    list_step read more fuel left bytes ∙ ap (step_heads read more (list_heads_by read more fuel) left) e

module _ {A : Type 0} {read : Reader A} {more : Tally} {all left : Option ℕ} {a b : CursorState}
    (t : Tallies read more all left a b) where
  -- nothing follows but these heads
  pub tallies_end : (c : CursorState) (n : ℕ) (s : Option Step) → step_at left (ahead b) ≡ s → c.heads ≡ raised b.heads n
      → ((fuel : ℕ) → step_heads read more (list_heads_by read more fuel) left s ≡ n)
      → c.heads ≡ raised a.heads (list_heads read more all (ahead a))
  tallies_end c n s e counted last = by_fuel t.fuel t.enough t.sum where
    by_fuel : (fuel : ℕ) → length (ahead b) < fuel
        → list_heads read more all (ahead a) ≡ t.decoded + list_heads_by read more fuel left (ahead b)
        → c.heads ≡ raised a.heads (list_heads read more all (ahead a))
    by_fuel zero enough sum = absurd (omega arith)
    by_fuel (suc fuel) enough sum = decoded_then a b c t.decoded n _ t.heads counted
        (sum ∙ ap (λ (k : ℕ). t.decoded + k) (list_stepped read more fuel left (ahead b) s e ∙ last fuel))

  -- the next element was decoded, with its first head
  pub tallies_on : (after : Option ℕ) (c d : CursorState) (h : Head) (x : A) → ElementRead left after b c h
      → read h (ahead c) ≡ Some (x, ahead d) → d.heads ≡ raised c.heads (more h (ahead c))
      → length (ahead d) < length (ahead b) → Tallies read more all after a d
  tallies_on after c d h x r e counted shorter = by_fuel t.fuel t.enough t.sum where
    by_fuel : (fuel : ℕ) → length (ahead b) < fuel
        → list_heads read more all (ahead a) ≡ t.decoded + list_heads_by read more fuel left (ahead b)
        → Tallies read more all after a d
    by_fuel zero enough sum = absurd (omega arith)
    by_fuel (suc fuel) enough sum =
        let one : list_heads_by read more (suc fuel) left (ahead b)
        ≡ suc (more h (ahead c) + list_heads_by read more fuel after (ahead d)) =
        list_stepped read more fuel left (ahead b) (Some (element after h (ahead c))) r.reads
        ∙ ap (λ (n : ℕ). suc (more h (ahead c) + n))
        (then_some (read h (ahead c)) x (ahead d) (list_heads_by read more fuel after) e) in
        record {
          decoded = t.decoded + suc (more h (ahead c));
          heads = decoded_then a b d t.decoded (suc (more h (ahead c))) (t.decoded + suc (more h (ahead c))) t.heads
              (decoded_then b c d 1 (more h (ahead c)) (suc (more h (ahead c))) r.counted counted (omega arith)) refl;
          fuel = fuel;
          enough = omega (arith, enough, shorter);
          sum = omega (arith, sum, one);
        }

  -- the next element wasn't
  pub tallies_stuck : (after : Option ℕ) (c d : CursorState) (h : Head) → ElementRead left after b c h
      → read h (ahead c) ≡ None → d.heads ≡ raised c.heads (more h (ahead c))
      → d.heads ≡ raised a.heads (list_heads read more all (ahead a))
  tallies_stuck after c d h r e counted =
      tallies_end d (suc (more h (ahead c))) (Some (element after h (ahead c))) r.reads
      (decoded_then b c d 1 (more h (ahead c)) (suc (more h (ahead c))) r.counted counted (omega arith))
      (λ fuel. omega (arith, then_none (read h (ahead c)) (list_heads_by read more fuel after) e))

-- an element leaves fewer bytes
pub shorter : (b c d : CursorState) → Passed b c → b.place < c.place → Passed c d → length (ahead d) < length (ahead b)
shorter b c d first further second = omega (
  arith,
  ap length first.same,
  ap length second.same,
  further,
  first.within,
  second.forward,
  second.within,
  length-drop b.place b.bytes,
  length-drop d.place d.bytes,
)

-- ---- strings

pub piece_heads : (is_text : Bool) (len : Option ℕ) (n : ℕ) (bytes : List ℕ) (a b : CursorState) → len ≡ Some n
    → b.heads ≡ a.heads → b.heads ≡ raised a.heads (string_heads is_text len bytes)
piece_heads is_text len n bytes a b is same = rw is same
