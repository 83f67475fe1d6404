-- Loops over the rest of a list or a map at a cursor.
use Rattle.passkey_kinds.proofs.Common.{raised-le, Lies, Next, Looks, Walks, Left, Item, pairs_of, Language, CursorState, ahead, break_heads, members-pairs_of, Keeping, nothing, counted, kept_of, Spends, SpendsLess, Fields, table_of, Member, named, Members, Naming, cost_by, kept_in, kept_in_map, greatest_cost, cost_at, keeps_at, keeps_by, keeps_nothing, none_keeps, record_keeps, ◌≡◌, ◌∙◌, ◌<◌, ◌+◌, ℕ, suc, arith, Bool, true, false, if◌then◌else◌, List, [], ◌∷◌, length, Option, refl, sym, ap, ◌≤◌, ◌*◌, zero, subst, mul-le-mul_left, and_parts}
use Rattle.passkey_kinds.proofs.Cursor.{eased}
use Rattle.passkey_kinds.proofs.Counting.{least_later, least_then}
use Rattle.passkey_kinds.specs.Kind.{CountsLeast, Least, least_and, no_least}
use Rattle.passkey_cbor.specs.Item as item
use Rattle.passkey_kinds.specs.RecordReading.{least_in_map}

-- ---- a loop over the rest of a list at a cursor: of an array's elements, or of a map's members

-- How far the loop is: which elements are left, what is known with these ahead, and what was spent
-- on those before them.
pub record EachTo {A : Type 0} (P : A → Language) (Done : List A → Type 0) (kept : List A → ℕ) (least : List A → Least)
    (cost : ℕ) (left : Option ℕ) (is : List A) (to : ℕ) (start now : CursorState) : Type 0 where
  pub rest : List A
  pub ahead : Lies (Left P left rest) now.bytes now.place to
  pub done : Done rest
  pub heads : now.heads + cost * start.place ≤ start.heads + cost * now.place
  pub nodes : now.nodes + kept rest ≤ start.nodes + kept is
  pub fewer : length rest ≤ length is
  pub counts : (end : CursorState) → CountsLeast (least rest) now end → CountsLeast (least is) start end

-- The loop is over.
pub record EachDone {A : Type 0} (Done : List A → Type 0) (cost all : ℕ) (least : Least) (to : ℕ)
    (start now : CursorState) : Type 0 where
  pub done : Done []
  pub spends : Spends cost all to start now
  pub place : now.place ≡ to
  pub counts : CountsLeast least start now

break_one : (left : Option ℕ) → break_heads left ≤ 1
break_one left = grind arith

pub one_looked : (before after : Option ℕ) (a b : CursorState) (found : Bool) → Looks before after a b found
    → b.heads ≤ a.heads + 1
one_looked before after a b found l = grind (arith, raised-le, break_one)

heads_end : (c from start place a b more to : ℕ) → 0 < c → a + c * from ≤ start + c * place → b ≤ a + more
    → to ≡ place + more → b + c * from ≤ start + c * to
heads_end zero from start place a b more to some before look at = absurd (omega (arith, some))
heads_end (suc k) from start place a b more to some before look at = rw at (omega (arith, before, look))

-- an element of at least one byte leaves a head to spare
pub one_spare : (k kept to : ℕ) (b d : CursorState) → b.place < to → Spends k kept to b d → SpendsLess (suc k) kept to b d
one_spare k kept to b d less s = grind (arith)

pub begun : {A : Type 0} (P : A → Language) (Done : List A → Type 0) (kept : List A → ℕ) (least : List A → Least)
    (cost : ℕ) (is : List A) (to : ℕ) (start : CursorState) (left : Option ℕ) → Done is
    → Lies (Left P left is) start.bytes start.place to → EachTo P Done kept least cost left is to start start
begun P Done kept least cost is to start left done ahead = record {
  rest = is;
  ahead = ahead;
  done = done;
  heads = omega arith;
  nodes = omega arith;
  fewer = omega arith;
  counts = λ end h. h;
}

module _ {A : Type 0} {P : A → Language} {Done : List A → Type 0} {kept : List A → ℕ} {least : List A → Least}
    {cost : ℕ} {is : List A} {to : ℕ} {start a : CursorState} {before : Option ℕ}
    (e : EachTo P Done kept least cost before is to start a) {after : Option ℕ} (b : CursorState) where
  -- the next element
  pub next_is : Walks P before after a b true → Next P after e.rest b.bytes b.place to
  next_is walks = walks e.rest to e.ahead

  -- what was spent on it in full or in part, and on those before it: its end is not past the list's
  pub spent_within : (d : CursorState) → Looks before after a b true → (n : Next P after e.rest b.bytes b.place to)
      → (one : ℕ) → kept (n.first ∷ n.others) ≡ one + kept n.others → SpendsLess cost one n.middle b d
      → Spends cost (kept is) to start d
  spent_within d looks n one whole spends = grind (arith, one_looked, mul-le-mul_left)

  -- there was a next element
  pub some_are : Next P after e.rest b.bytes b.place to → 0 < length is
  some_are n = omega (arith, e.fewer, ap length n.whole)

  -- what was spent on one more element
  one_spent : (d : CursorState) → Looks before after a b true → (n : Next P after e.rest b.bytes b.place to) → (one : ℕ)
      → kept (n.first ∷ n.others) ≡ one + kept n.others → SpendsLess cost one n.middle b d → d.place ≡ n.middle
      → (d.heads + cost * start.place ≤ start.heads + cost * d.place) × (d.nodes + kept n.others ≤ start.nodes + kept is)
  one_spent d looks n one whole spends at = grind (arith, one_looked)

  -- what was counted with one more element
  one_counted : (d : CursorState) (n : Next P after e.rest b.bytes b.place to) (first : Least)
      → least (n.first ∷ n.others) ≡ least_and first (least n.others) → CountsLeast no_least a b → CountsLeast first b d
      → (end : CursorState) → CountsLeast (least n.others) d end → CountsLeast (least is) start end
  one_counted d n first whole risen here end rest = e.counts end
      (subst (λ (xs : List A). CountsLeast (least xs) a end) (sym n.whole)
      (subst (λ (l : Least). CountsLeast l a end) (sym whole)
      (least_then first (least n.others) (least_later first risen here) rest)))

  -- one more element
  pub one_more_done : (Next_done : List A → Type 0) (d : CursorState) → Looks before after a b true
      → (n : Next P after e.rest b.bytes b.place to) → (one : ℕ) → kept (n.first ∷ n.others) ≡ one + kept n.others
      → SpendsLess cost one n.middle b d → d.place ≡ n.middle → d.bytes ≡ b.bytes → (first : Least)
      → least (n.first ∷ n.others) ≡ least_and first (least n.others) → CountsLeast no_least a b → CountsLeast first b d
      → Next_done n.others → EachTo P Next_done kept least cost after is to start d
  one_more_done Next_done d looks n one whole spends at same first all risen here done =
      let spent = one_spent d looks n one whole spends at in
      record {
        rest = n.others;
        ahead = subst (λ (k : ℕ). Lies (Left P after n.others) d.bytes k to) (sym at)
            (subst (λ (bytes : List ℕ). Lies (Left P after n.others) bytes n.middle to) (sym same) n.after);
        done = done;
        heads = spent.0;
        nodes = spent.1;
        fewer = omega (arith, e.fewer, ap length n.whole);
        counts = one_counted d n first all risen here;
      }

  -- no more elements
  pub each_done : Walks P before after a b false → Looks before after a b false → 0 < cost → least [] ≡ no_least
      → CountsLeast no_least a b → EachDone Done cost (kept is) (least is) to start b
  each_done walks looks some none_least risen =
      let none = walks e.rest to e.ahead in
      let spent = heads_end cost start.place start.heads a.place a.heads b.heads (break_heads before) to some e.heads
      (omega (arith, looks.heads, raised-le a.heads (break_heads before))) (sym none.1 ∙ looks.passes refl) in
      let counts : CountsLeast (least is) start b = e.counts b
      (subst (λ (xs : List A). CountsLeast (least xs) a b) (sym none.0)
      (subst (λ (l : Least). CountsLeast l a b) (sym none_least) risen)) in
      record {
        done = subst Done none.0 e.done;
        spends = grind (arith, none, e, looks, spent);
        place = none.1;
        counts = counts;
      }

-- ---- the greatest cost

cost_at_le : {P : Type 0} (rows : List (Member P)) (n : ℕ) → cost_at rows n ≤ greatest_cost rows
cost_at_le [] n = omega arith
cost_at_le (m ∷ ms) n = grind (arith, cost_at_le ms n)

pub at_least : {P : Type 0} (rows : List (Member P)) → 4 ≤ greatest_cost rows
at_least [] = omega arith
at_least (m ∷ ms) = omega (arith, at_least ms)

pub cost_by_le : {P : Type 0} (rows : List (Member P)) (naming : Naming) → cost_by rows naming ≤ greatest_cost rows
cost_by_le rows naming = grind (arith, cost_at_le, at_least)

-- ---- what is kept

none_kept : (keeps : Keeping) (i : Item) → keeps_nothing keeps ≡ true → kept_of keeps i ≡ 0
none_kept keeps i e = grind arith

none_at : {P : Type 0} (rows : List (Member P)) (n : ℕ) (i : Item) → none_keeps rows ≡ true
    → kept_of (keeps_at rows n) i ≡ 0
none_at [] n i e = refl
none_at (m ∷ ms) n i e = grind (arith, and_parts, none_kept, none_at ms n i)

none_by : {P : Type 0} (rows : List (Member P)) (naming : Naming) (i : Item) → none_keeps rows ≡ true
    → kept_of (keeps_by rows naming) i ≡ 0
none_by rows naming i e = grind (arith, none_at)

none_in : {P : Type 0} (t : Fields P) (ms : Members) → none_keeps t.rows ≡ true → kept_in t ms ≡ 0
none_in t [] e = refl
none_in t (m ∷ ms) e = omega (arith, none_by t.rows (named (table_of t) m.0) m.1 e, none_in t ms e)

none_in_map : {P : Type 0} (t : Fields P) (i : Item) → none_keeps t.rows ≡ true → kept_in_map t i ≡ 0
none_in_map t i e = grind (arith, none_in)

keeps_if : {P : Type 0} (t : Fields P) (i : Item) (b : Bool) → none_keeps t.rows ≡ b
    → kept_in_map t i ≤ kept_of (if b then nothing else counted (kept_in_map t) (least_in_map t)) i
keeps_if t i b e = grind (arith, none_in_map)

pub kept_record : {P : Type 0} (t : Fields P) (i : Item) → kept_in_map t i ≤ kept_of (record_keeps t) i
kept_record t i = keeps_if t i (none_keeps t.rows) refl

pub kept_pairs : {P : Type 0} (t : Fields P) (ms : Members) (i : Item) → i ≡ item.map (pairs_of ms)
    → kept_in t ms ≤ kept_in_map t i
kept_pairs t ms i e = omega (arith, ap (kept_in_map t) e, ap (kept_in t) (members-pairs_of ms))

-- ---- what a member costs

-- a member's map key by itself, and with its value
module _ (c : ℕ) {middle to : ℕ} {b d : CursorState} (first : b.place < middle) (second : middle ≤ to) (four : 4 ≤ c)
    (key : Spends 3 0 middle b d) where
  key_heads : (c : ℕ) → 4 ≤ c → suc d.heads + c * b.place ≤ b.heads + c * middle
  key_heads zero four = absurd (omega (arith, four))
  key_heads (suc k) four = (one_spare k 0 middle b d first
      (eased (omega (arith, four)) (omega arith) (omega (arith, first)) key)).heads

  pub key_spent : SpendsLess c 0 to b d
  key_spent = grind (arith, key_heads, mul-le-mul_left)

  pub member_spent : {one k : ℕ} {f : CursorState} → d.place ≡ middle → k ≤ c → Spends k one to d f
      → SpendsLess c one to b f
  member_spent {one = one} {f = f} at cheap value =
      let eased_value = eased {d = c} {more = one} cheap (omega arith) (omega (arith, at, second)) value in
      grind (arith, key_heads, eased_value, key, value)
