-- The parts of arrays and maps, as they are encoded.
use Rattle.std.proofs.Common.{◌≡◌, ◌∙◌, ℕ, zero, suc, ◌+◌, ◌<◌, arith, List, [], ◌∷◌, ◌++◌, length, Option, Some, None, option_map, slice_get, refl, sym, ap, subst, length-append, append_assoc}
use Rattle.passkey_cbor.proofs.items.EncodedFrom.{lies_size}
use Rattle.passkey_cbor.proofs.items.Items.{elements-items_of, members-pairs_of}
use Rattle.passkey_cbor.proofs.items.More.{split}
use Rattle.passkey_cbor.specs.EncodedAt.{Lies, IsEncodedAt}
use Rattle.passkey_cbor.specs.Heads.{break}
use Rattle.passkey_cbor.specs.Inside.{Within, PairWithin, Left, Inside}
use Rattle.passkey_cbor.specs.Item.{Item, array, elements, members}
use Rattle.passkey_cbor.specs.Languages.{Language, Each, Is}
use Rattle.passkey_cbor.specs.LeadingItem.{max_depth}
use Rattle.passkey_cbor.specs.Reading.{simple_item}
use Rattle.passkey_cbor.specs.declared.head.Head.{Head}
use Rattle.passkey_explain.specs.Along.{turns, parts_of, part_index, ItemsLie, PassedItems}
use Rattle.passkey_explain.specs.Blame.{Step, element, member, value, key, part_at}
use Rattle.passkey_cbor.specs.Item as item
use Rattle.passkey_cbor.specs.declared.head.Head.TheVariants as head

-- ---- one after the other

each_items : (xs : List Item) (bytes : List ℕ) (from to : ℕ) → Lies (Each (Within max_depth) xs) bytes from to
    → ItemsLie xs bytes from to
each_items [] bytes from to l = omega (arith, lies_size (Is []) bytes from to l, ap length l.encoded)
each_items (x ∷ xs) bytes from to l =
    let s = split (Within max_depth x) (Each (Within max_depth) xs) bytes from to l in
    (s.middle, (s.front, each_items xs bytes s.middle to s.back))

each_turns : (ms : List (Item × Item)) (bytes : List ℕ) (from to : ℕ)
    → Lies (Each (PairWithin max_depth) ms) bytes from to → ItemsLie (turns ms) bytes from to
each_turns [] bytes from to l = omega (arith, lies_size (Is []) bytes from to l, ap length l.encoded)
each_turns (m ∷ ms) bytes from to l =
    let s = split (PairWithin max_depth m) (Each (PairWithin max_depth) ms) bytes from to l in
    let p = split (Within max_depth m.0) (Within max_depth m.1) bytes from s.middle s.front in
    (p.middle, (p.front, (s.middle, (p.back, each_turns ms bytes s.middle to s.back))))

-- the elements that are left, without the break
left_each : {A : Type 0} (P : A → Language) (left : Option ℕ) (xs : List A) (bytes : List ℕ) (from to : ℕ)
    → Lies (Left P left xs) bytes from to → (end : ℕ) × Lies (Each P xs) bytes from end
left_each P (Some n) xs bytes from to l = (
  to,
  record { text = l.text; encoded = l.encoded.1; parts = l.parts; forward = l.forward; within = l.within },
)
left_each P None xs bytes from to l =
    let s = split (Each P xs) (Is (break ∷ [])) bytes from to l in (s.middle, s.front)

simple_parts : (n : ℕ) → parts_of (simple_item n) ≡ []
simple_parts n = grind arith

none_there : (i : Item) (bytes : List ℕ) (from : ℕ) → parts_of i ≡ []
    → (end : ℕ) × ItemsLie (parts_of i) bytes from end
none_there i bytes from none =
    (from, subst (λ (xs : List Item). ItemsLie xs bytes from from) (sym none) refl)

-- what follows the head of an array or a map
pub opened_parts : (h : Head) (i : Item) (bytes : List ℕ) (from to : ℕ) → Lies (Inside h i) bytes from to
    → (end : ℕ) × ItemsLie (parts_of i) bytes from end
opened_parts (head.Array left) i bytes from to l =
    let xs = l.encoded.0 in
    let inside : Lies (Left (Within max_depth) left xs) bytes from to = record {
      text = l.text;
      encoded = l.encoded.1.1;
      parts = l.parts;
      forward = l.forward;
      within = l.within;
    } in
    let e = left_each (Within max_depth) left xs bytes from to inside in
    let are : parts_of i ≡ xs = ap parts_of l.encoded.1.0 ∙ elements-items_of xs in
    (e.0, subst (λ (ys : List Item). ItemsLie ys bytes from e.0) (sym are) (each_items xs bytes from e.0 e.1))
opened_parts (head.Map left) i bytes from to l =
    let ms = l.encoded.0 in
    let inside : Lies (Left (PairWithin max_depth) left ms) bytes from to = record {
      text = l.text;
      encoded = l.encoded.1.1;
      parts = l.parts;
      forward = l.forward;
      within = l.within;
    } in
    let e = left_each (PairWithin max_depth) left ms bytes from to inside in
    let are : parts_of i ≡ turns ms = ap parts_of l.encoded.1.0 ∙ ap turns (members-pairs_of ms) in
    (e.0, subst (λ (ys : List Item). ItemsLie ys bytes from e.0) (sym are) (each_turns ms bytes from e.0 e.1))
opened_parts (head.Unsigned n) i bytes from to l = none_there i bytes from (ap parts_of l.encoded.0)
opened_parts (head.Negative n) i bytes from to l = none_there i bytes from (ap parts_of l.encoded.0)
opened_parts (head.Bytes len) i bytes from to l = none_there i bytes from (ap parts_of l.encoded.1.0)
opened_parts (head.Text len) i bytes from to l = none_there i bytes from (ap parts_of l.encoded.1.0)
opened_parts (head.Tag n) i bytes from to l = none_there i bytes from (ap parts_of l.encoded.1.0)
opened_parts (head.Simple n) i bytes from to l =
    none_there i bytes from (ap parts_of l.encoded.0 ∙ simple_parts n)
opened_parts (head.Float f) i bytes from to l = none_there i bytes from (ap parts_of l.encoded.0)
opened_parts head.Break i bytes from to l = absurd l.encoded

-- ---- the part that a step leads to

pub turn_key : (ms : List (Item × Item)) (n : ℕ)
    → slice_get (turns ms) (n + n) ≡ option_map (λ (m : Item × Item). m.0) (slice_get ms n)
turn_key [] n = refl
turn_key (m ∷ ms) zero = refl
turn_key (m ∷ ms) (suc n) =
    let e : suc n + suc n ≡ suc (suc (n + n)) = omega arith in
    ap (slice_get (m.0 ∷ m.1 ∷ turns ms)) e ∙ turn_key ms n

pub turn_value : (ms : List (Item × Item)) (n : ℕ)
    → slice_get (turns ms) (suc (n + n)) ≡ option_map (λ (m : Item × Item). m.1) (slice_get ms n)
turn_value [] n = refl
turn_value (m ∷ ms) zero = refl
turn_value (m ∷ ms) (suc n) =
    let e : suc n + suc n ≡ suc (suc (n + n)) = omega arith in
    ap (λ k. slice_get (m.0 ∷ m.1 ∷ turns ms) (suc k)) e ∙ turn_value ms n

pub part_there : (s : Step) (i part : Item) → part_at s i ≡ Some part
    → slice_get (parts_of i) (part_index s) ≡ Some part
part_there (element n) (array xs) part h = h
part_there (member n number name) (item.map ps) part h = turn_value (members ps) n ∙ h
part_there (value n) (item.map ps) part h = turn_value (members ps) n ∙ h
part_there (key n) (item.map ps) part h = turn_key (members ps) n ∙ h
part_there s i part h = absurd cc

-- ---- items that the cursor passes

pub items_begin : (xs : List Item) (bytes : List ℕ) (from to : ℕ) → ItemsLie xs bytes from to
    → PassedItems xs 0 bytes from from to
items_begin xs bytes from to l =
    record { before = []; after = xs; whole = refl; count = refl; passed = refl; ahead = l }

pub one_more : (xs : List Item) (x : Item) (bytes : List ℕ) (from middle next : ℕ) → ItemsLie xs bytes from middle
    → IsEncodedAt x bytes middle next → ItemsLie (xs ++ x ∷ []) bytes from next
one_more [] x bytes from middle next same l =
    (next, (subst (λ (k : ℕ). IsEncodedAt x bytes k next) (sym same) l, refl))
one_more (y ∷ ys) x bytes from middle next h l = (h.0, (h.1.0, one_more ys x bytes h.0 middle next h.1.1 l))

-- the next of them, and what is so after it
pub record NextItem (xs : List Item) (n : ℕ) (bytes : List ℕ) (from place to : ℕ) : Type 0 where
  pub first : Item
  pub next : ℕ
  pub here : IsEncodedAt first bytes place next
  pub after : PassedItems xs (n + 1) bytes from next to

next_among : (xs before after : List Item) (n : ℕ) (bytes : List ℕ) (from place to : ℕ) → xs ≡ before ++ after
    → length before ≡ n → n < length xs → ItemsLie before bytes from place → ItemsLie after bytes place to
    → NextItem xs n bytes from place to
next_among xs before [] n bytes from place to whole count less passed ahead =
    absurd (omega (arith, less, count, ap length whole, length-append before []))
next_among xs before (x ∷ rest) n bytes from place to whole count less passed ahead = record {
  first = x;
  next = ahead.0;
  here = ahead.1.0;
  after = record {
    before = before ++ x ∷ [];
    after = rest;
    whole = whole ∙ sym (append_assoc before (x ∷ []) rest);
    count = omega (arith, count, length-append before (x ∷ []));
    passed = one_more before x bytes from place ahead.0 passed ahead.1.0;
    ahead = ahead.1.1;
  };
}

pub next_item : (xs : List Item) (n : ℕ) (bytes : List ℕ) (from place to : ℕ) → n < length xs
    → PassedItems xs n bytes from place to → NextItem xs n bytes from place to
next_item xs n bytes from place to less p =
    next_among xs p.before p.after n bytes from place to p.whole p.count less p.passed p.ahead
